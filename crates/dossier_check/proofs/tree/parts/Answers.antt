use Rattle.std.proofs.Common.{ap, rules}
use Rattle.item_lists.specs.Faults.{first_of, unless}
use Rattle.dossier_check.specs.NodeReasons.{reason}
use Rattle.slot_box.proofs.SplitLaws.{test_from_IsLawfulSplit}
use Rattle.dossier_check.proofs.SplitTests.{refused_by_test}
use Rattle.dossier_check.proofs.tree.parts.Goals as goal

pub returns-in-Ok-clause-reasons : goal.returns-in-Ok-clause-reasons
returns-in-Ok-clause-reasons c =
    ap (λ test. first_of (unless test (reason 6 c.args.line))) (test_from_IsLawfulSplit c.args.bx.now c.args.split c.in-Ok.ensures.lawful)

pub returns-in-Err-BadSplit-clause-reasons : goal.returns-in-Err-BadSplit-clause-reasons
returns-in-Err-BadSplit-clause-reasons c =
    rw c.at.ensures
    (ap (λ test. first_of (unless test (reason 6 c.args.line)))
    (refused_by_test c.args.bx.now c.args.split c.len.ensures.shape (c.split.ensures.bad.0 (search rules))))
