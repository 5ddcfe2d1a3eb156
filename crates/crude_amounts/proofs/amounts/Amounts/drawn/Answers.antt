use Rattle.std.proofs.Common.{◌≡◌, ℕ, ◌≤◌, get_or, List, sum, length, take, sym, ap, subst, ◌∙◌, arith}
use Rattle.std.proofs.lemmas.List.{length-take-le}
use Rattle.crude_amounts.specs.Draw.{draw_of, DrawsByShares}
use Rattle.crude_amounts.specs.Blend.{IsNearlyShared}
use Rattle.crude_amounts.proofs.BlendLaws.{draw_of_is_nearly_shared}
use Rattle.crude_amounts.proofs.CellLaws.{zeros, zeros_are_cells, front_are_cells, amounts_in-front}
use Rattle.crude_amounts.proofs.DrawLaws.{length-draw_of, sum-draw_of, draw_of-within, draw_of_draws_by_shares}
use Rattle.crude_amounts.proofs.amounts.Amounts.drawn.Goals as goal

-- what the written cells of the draw are, where the amounts stand in the first cells, and how many they are
drawn_is : (held seen drawn : List ℕ) (volume : ℕ) → drawn ≡ draw_of seen volume → seen ≡ held → drawn ≡ draw_of held volume
drawn_is held seen drawn volume is same = is ∙ ap (λ amounts. draw_of amounts volume) same

drawn_count : (held drawn cells : List ℕ) (count volume : ℕ) → drawn ≡ draw_of held volume → take count cells ≡ held → count ≤ length cells → length drawn
    ≡ count
drawn_count held drawn cells count volume is seen room =
    ap length is ∙ length-draw_of held volume ∙ ap length (sym seen) ∙ length-take-le count cells room

pub invariant_of-result : goal.invariant_of-result
invariant_of-result c =
    let held = c.args.self.now in
    let volume = c.args.volume in
    let is = drawn_is held c.cells.result.now c.draw_each.new.drawn volume c.draw_each.ensures c.cells.ensures.value in
    let count = drawn_count held c.draw_each.new.drawn c.self.inside.cells c.self.inside.count volume is c.self.view_is (omega arith) in
    let total = ap sum is ∙ sum-draw_of held volume (omega arith) in
    let most = c.cells.ensures.total in
    front_are_cells c.self.inside.count zeros c.draw_each.new.drawn (zeros_are_cells c.self.inside.count (omega arith) (omega arith)) count (omega arith)

pub returns : goal.returns
returns c =
    let held = c.args.self.now in
    let volume = c.args.volume in
    let is = drawn_is held c.cells.result.now c.draw_each.new.drawn volume c.draw_each.ensures c.cells.ensures.value in
    let count = drawn_count held c.draw_each.new.drawn c.self.inside.cells c.self.inside.count volume is c.self.view_is (omega arith) in
    let value = amounts_in-front c.self.inside.count zeros c.draw_each.new.drawn count ∙ is in
    let P : List ℕ → Type 0 = DrawsByShares held volume in
    record {
      value = value;
      shares = subst P (sym value) (draw_of_draws_by_shares held volume);
      volume = ap sum value ∙ sum-draw_of held volume (omega arith);
      lengths = ap length value ∙ length-draw_of held volume;
      there = λ i within.
          let part = ap (λ xs. get_or xs i 0) value in
          let most = draw_of-within held volume i (omega arith) c.requires.within in
          omega arith;
      near = subst (IsNearlyShared held volume) (sym value) (draw_of_is_nearly_shared held volume (omega arith));
    }
