use Rattle.std.proofs.Common.{rules, ◌≡◌, ◌++◌, ◌∷◌, [], length, refl}
use Rattle.named_rows.specs.NamedRows.{IsNamed}
use Rattle.row_forms.specs.Fits.{IsFitRow}
use Rattle.search_node.proofs.WarmLaws.{warm-added, warm-full}
use Rattle.search_node.proofs.warm.WarmEntries.enter.Goals as goal

pub returns-then-is_full-clause-entries : goal.returns-then-is_full-clause-entries
returns-then-is_full-clause-entries c = λ before start are.
    absurd (warm-full c.args.weighing.now.plant.now (length c.args.weighing.now.bx.now) before c.args.term c.args.self.now start are
    (c.is_full.ensures.0 c.if-is_full.true))

pub returns-in_ok-map_err-clause-entries : goal.returns-in_ok-map_err-clause-entries
returns-in_ok-map_err-clause-entries c = λ before start are.
    let parts = c.args.weighing.now.plant.now in
    let n = length c.args.weighing.now.bx.now in
    let named : IsNamed parts n c.in-Row.name c.in-Some.row = rw c.in-Some.is at c.in_ok-row.ensures.named in
    let fits : IsFitRow parts n c.in-Some.row = rw c.in-Some.is at c.in_ok-row.ensures.fits in
    let added : c.push-in-Some.new.self ≡ c.args.self.now.guess.y ++ c.in-Row.y ∷ [] = search rules in
    warm-added parts n before c.args.term c.in-Row.name c.in-Row.y c.in-Some.row c.args.self.now _ c.in-Row.is start are named
    (c.in_ok-push.ensures.block parts n are.block named fits) c.in_ok-push.ensures.names c.in_ok-push.ensures.rows added refl
