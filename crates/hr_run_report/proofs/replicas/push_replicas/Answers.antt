use Rattle.std.proofs.Common.{◌≡◌, ◌≤◌, ◌+◌, ◌*◌, ◌++◌, ◌∙◌, ap, arith, List, length, string_bytes}
use Rattle.hr_base.specs.Texts.{each_from}
use Rattle.hr_rel.specs.declared.value.Value.{Value}
use Rattle.hr_forms.specs.declared.line.EngineKind.{EngineKind}
use Rattle.hr_history.specs.View.{View}
use Rattle.std.specs.List.{zip}
use Rattle.hr_run_report.specs.Report.{replica_text}
use Rattle.hr_run_report.proofs.Steps.{one_more_from_0, all_there}
use Rattle.hr_run_report.proofs.replicas.push_replicas.Goals as goal

pub replicas-preserved : goal.replicas-preserved
replicas-preserved c = one_more_from_0 (replica_text c.args.shepherd.now c.args.catalog.now) (zip c.args.kinds.now c.args.dumps.now) c.replicas.replica (string_bytes c.args.out.now) (string_bytes c.replicas.out) (string_bytes c.push_replica.new.out) c.replicas.invariant c.in_ok-push_replica.ensures

pub returns : goal.returns
returns c =
    let f_is : c.f.result ≡ c.args.shepherd.now.f = c.f.ensures.value ∙ ap (λ (v : View). v.f) c.view.ensures in
    let few : length c.args.kinds.now ≤ 2 * c.args.shepherd.now.f + 1 = c.requires in
    let past : 2 * c.f.result + 1 ≤ c.replicas.replica = c.replicas-test.false in
    c.replicas.invariant
    ∙ ap (λ (items : List (EngineKind × List (List (List Value)))). string_bytes c.args.out.now ++ each_from (replica_text c.args.shepherd.now c.args.catalog.now) 0 items)
    (all_there c.args.kinds.now c.args.dumps.now c.replicas.replica (omega arith))
