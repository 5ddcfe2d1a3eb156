use Rattle.std.proofs.Common.{◌≡◌, ℕ, ◌+◌, ◌-◌, ◌<◌, ◌≤◌, List, [], ◌∷◌, ◌++◌, length, get_or, sum, take, set, sym, ap, ◌∙◌, arith}
use Rattle.std.proofs.lemmas.List.{take_more, take_more_set, take_all}
use Rattle.std.proofs.lemmas.List.Sums.{sum_by_more}
use Rattle.crude_amounts.specs.Draw.{share_of, draw_from, draw_of}
use Rattle.crude_amounts.proofs.DrawLaws.{draw_from_push}
use Rattle.crude_amounts.proofs.cells.draw_each.Goals as goal

-- the draw of one more crude, where so many were drawn
one_more : (total volume i reached : ℕ) (cells drawn : List ℕ) → i < length cells → i < length drawn → reached ≡ sum (take i cells) → take i drawn
    ≡ draw_from total volume 0 (take i cells) →
    take (i + 1) (set drawn i (share_of total volume (reached + get_or cells i 0) - share_of total volume reached))
    ≡ draw_from total volume 0 (take (i + 1) cells)
one_more total volume i reached cells drawn within room so_far done =
    let part = λ (n : ℕ). (share_of total volume (n + get_or cells i 0) - share_of total volume n) ∷ [] in
    let from : reached ≡ 0 + sum (take i cells) = omega arith in
    take_more_set drawn i (share_of total volume (reached + get_or cells i 0) - share_of total volume reached) room
    ∙ ap (λ front. front ++ part reached) done
    ∙ ap (λ n. draw_from total volume 0 (take i cells) ++ part n) from
    ∙ sym (draw_from_push total volume 0 (take i cells) (get_or cells i 0))
    ∙ ap (draw_from total volume 0) (sym (take_more cells i 0 within))

pub loop-c-preserved : goal.loop-c-preserved
loop-c-preserved c =
    let cells = c.args.cells.now in
    let i = c.loop-c.c in
    let total = c.total-total.result in
    let volume = c.args.volume in
    let within : i < length cells = c.loop-c-test.true in
    let room : i < length c.loop-c.drawn = omega arith in
    let next = share_of total volume (c.loop-c.reached + get_or cells i 0) in
    let parts : c.share-next.result - c.loop-c.taken ≡ next - share_of total volume c.loop-c.reached =
    ap (λ n. n - c.loop-c.taken) c.share-next.ensures.value ∙ ap (λ n. next - n) c.loop-c.invariant.taken in
    record {
      reached = (let grown = sum_by_more (λ x. x) cells i 0 within in omega arith);
      taken = c.share-next.ensures.value;
      drawn = ap (λ n. take (i + 1) (set c.loop-c.drawn i n)) parts ∙ one_more total volume i c.loop-c.reached cells c.loop-c.drawn within room
          c.loop-c.invariant.reached c.loop-c.invariant.drawn;
    }

pub returns : goal.returns
unfolding draw_of
returns c =
    let cells = c.args.cells.now in
    let i = c.loop-c.c in
    let whole : length c.loop-c.drawn ≤ i = omega arith in
    sym (take_all i c.loop-c.drawn whole)
    ∙ c.loop-c.invariant.drawn
    ∙ ap (λ xs. draw_from c.total-total.result c.args.volume 0 xs) (take_all i cells c.loop-c-test.false)
    ∙ ap (λ n. draw_from n c.args.volume 0 cells) c.total-total.ensures
