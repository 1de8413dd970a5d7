use Rattle.std.proofs.Common.{◌≡◌, ◌+◌, ◌-◌, rules, arith, length, length-drop, get_or, false, Ok}
use Rattle.std.proofs.lemmas.List.{take_rest}
use Rattle.hr_lex.specs.Bytes.{is_blank}
use Rattle.hr_lex.specs.Tokens.{token_at, Spans, IsTokenOf}
use Rattle.hr_lex.proofs.Spans.{one_more, further}
use Rattle.hr_lex.proofs.Each.{all_more, token_holds}
use Rattle.hr_lex.proofs.reading.read_bytes.Goals as goal

pub loop-rest-preserved : goal.loop-rest-preserved
loop-rest-preserved c =
    let rest = c.loop-rest.rest.now in
    let t = c.in-Ok.token in
    let at = c.loop-rest.at in
    let blank : is_blank (get_or rest 0 0) ≡ false = cc in
    let read : token_at at rest ≡ Ok t = cc in
    let span : Spans at (at + length rest) t = search rules in
    let whole = one_more c.loop-rest.tokens.items at rest t _ c.in-len1-up.len_at_least blank read span c.loop-rest.invariant.whole in
    let holds : IsTokenOf c.args.bytes.now t = token_holds c.args.bytes.now rest at t c.loop-rest.invariant.here c.loop-rest.invariant.fits read span in
    rw (take_rest rest (t.to - at)) record {
      whole = rw c.in_ok-push-in-Ok.ensures.items whole;
      fits = simp length-drop (omega (arith, span.1, span.2));
      here = further c.args.bytes.now rest at t.to (omega (arith, span.1)) c.loop-rest.invariant.here;
      each = rw c.in_ok-push-in-Ok.ensures.items (all_more (IsTokenOf c.args.bytes.now) c.loop-rest.tokens.items t c.loop-rest.invariant.each holds);
    }
