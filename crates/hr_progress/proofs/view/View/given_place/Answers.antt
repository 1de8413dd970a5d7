use Rattle.std.proofs.Common.{◌≡◌, ℕ, zero, suc, true, Option, Some, None, List, [], ◌∷◌, map, slice_get, IsTrue, refl, sym, ap, ◌∙◌}
use Rattle.std.specs.Option.{option_map}
use Rattle.hr_rel.specs.declared.answer.Answer.{Answer}
use Rattle.hr_base.specs.Lists.{numbered}
use Rattle.hr_engine.specs.declared.reply.RunReply.{RunReply}
use Rattle.hr_engine.specs.declared.reply.RunReply.TheVariants as run
use Rattle.hr_history.specs.View.{View}
use Rattle.hr_history.specs.Processed.{given_in}
use Rattle.hr_progress.specs.declared.txn.Given.{Given}
use Rattle.hr_progress.specs.declared.txn.TxnState as txn
use Rattle.hr_progress.specs.Plain.{plain, plain_txn, plain_txn_in}
use Rattle.hr_progress.specs.Seen.{answer_in, answer_at}
use Rattle.hr_progress.specs.Kept.{is_answer, AreAnswers, given_places}
use Rattle.hr_progress.proofs.Compared.{given_answers, given_are}
use Rattle.hr_progress.proofs.view.View.given_place.Goals as goal

there : (o : Option RunReply) → IsTrue (is_answer o) → o ≡ Some (run.Done (answer_in o))
there (Some (run.Done answer)) is = refl
there None is = cc is
there (Some (run.Blocked named)) is = cc is
there (Some (run.Deadlock cycle)) is = cc is
there (Some run.Lost) is = cc is
there (Some run.NoMemory) is = cc is

module _ (replies : List RunReply) where
  placed : (gs : List Given) (i : ℕ) → AreAnswers replies (given_places replies gs)
      → option_map (slice_get replies) (option_map (λ (g : Given). g.reply) (slice_get gs i)) ≡ option_map (λ (a : Answer). Some (run.Done a)) (slice_get (given_answers replies gs) i)
  placed [] i are = refl
  placed (g ∷ gs) zero are = ap Some (there (slice_get replies g.reply) are.0)
  placed (g ∷ gs) (suc i) are = placed gs i are.1

  numbered_placed : (gs : List Given) (i : ℕ) → AreAnswers replies (given_places replies gs)
      → option_map (slice_get replies) (option_map (λ (g : Given). g.reply) (numbered gs i)) ≡ option_map (λ (a : Answer). Some (run.Done a)) (numbered (given_answers replies gs) i)
  numbered_placed gs zero are = refl
  numbered_placed gs (suc i) are = placed gs i are

pub returns : goal.returns
returns c =
    let p = plain c.self.inside in
    let t = c.args.txn in
    let i = c.args.index in
    let answer = λ (a : Answer). Some (run.Done a) in
    let its = c.given_of.ensures ∙ ap (λ (xs : List txn.TxnState). (plain_txn_in (map plain_txn xs) t).given) c.deref.ensures.value in
    ap (λ (v : View). option_map (slice_get v.replies) c.given_place.result) (sym c.self.view_is)
    ∙ ap (option_map (slice_get p.replies)) (c.given_place.ensures ∙ ap (λ (gs : List Given). option_map (λ (g : Given). g.reply) (numbered gs i)) its)
    ∙ numbered_placed p.replies (plain_txn_in p.txns t).given i (c.self.invariant.places.given t)
    ∙ ap (λ (xs : List Answer). option_map answer (numbered xs i)) (sym (given_are p t))
    ∙ ap (λ (v : View). option_map answer (numbered (given_in v t) i)) c.self.view_is
