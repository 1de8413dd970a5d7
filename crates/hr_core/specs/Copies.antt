-- What is copied out.
use Rattle.std.specs.Prelude.{ℕ, Option, Some, None, option_and_then, List, slice_get}
use Rattle.hr_engine.specs.declared.reply.RunReply.{RunReply}
use Rattle.hr_history.specs.declared.reply.Reply.{Reply}
use Rattle.hr_history.specs.Replies.{ReplyState, NothingAsked, Waiting, Replied}

-- the reply at a place, if a place is kept and a reply stands there
abbrev pub reply_found : List RunReply → Option ℕ → Option RunReply
reply_found replies place = option_and_then (slice_get replies) place

-- the reply, if there is one
abbrev pub reply_in : ReplyState → Option Reply
reply_in NothingAsked = None
reply_in Waiting = None
reply_in (Replied reply) = Some reply
