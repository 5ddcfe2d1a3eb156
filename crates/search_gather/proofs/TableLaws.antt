-- What a table counts once places are written at which nothing counted, and the turns of tickets.
use Rattle.std.proofs.Common.{◌≡◌, ℕ, suc, ◌+◌, ◌<◌, Some, List, [], ◌∷◌, set, replicate, refl, ap, ◌∙◌, arith}
use Rattle.std.specs.Prelude.{slice_get, sum_by}
use Rattle.std.proofs.lemmas.List.{length-replicate, get_or-replicate}
use Rattle.std.proofs.lemmas.List.Sums.{sum_by-set}
use Rattle.std.proofs.lemmas.Option.{slice_get_within, slice_get-get_or, get_or_from_slice_get}
use Rattle.search_gather.specs.inside.Placing.{written}
use Rattle.search_gather.proofs.WrittenLaws.{AreApart, get-set_other}

pub slice_get-replicate : {X : Type 0} (n p : ℕ) (x : X) → p < n → slice_get (replicate n x) p ≡ Some x
slice_get-replicate n p x lt =
    let size = length-replicate n x in
    slice_get-get_or (replicate n x) p x (omega arith) ∙ ap Some (get_or-replicate n p x x lt)

module _ {X : Type 0} (f : X → ℕ) where
  -- what is written counts this much
  abbrev pub summed : List (ℕ × X) → ℕ
  summed [] = 0
  summed (w ∷ ws) = f w.1 + summed ws

  -- what stands at the place counts nothing
  pub record CountsNone (table : List X) (p : ℕ) : Type 0 where
    pub item : X
    pub there : slice_get table p ≡ Some item
    pub none : f item ≡ 0

  pub written-sum : (ws : List (ℕ × X)) (table : List X) → AreApart ws
      → ((k : ℕ) (w : ℕ × X) → slice_get ws k ≡ Some w → CountsNone table w.0)
      → sum_by f (written ws table) ≡ sum_by f table + summed ws
  written-sum [] table apart each = omega arith
  written-sum (w ∷ ws) table apart each =
      let here = each 0 w refl in
      let inside = slice_get_within table w.0 here.item here.there in
      let read = ap f (get_or_from_slice_get table w.0 here.item here.item here.there) in
      let more = sum_by-set f table w.0 w.1 here.item inside in
      let none = here.none in
      let rest = written-sum ws (set table w.0 w.1)
      (λ j k u v first second same. let e : suc j ≡ suc k = apart (suc j) (suc k) u v first second same in omega arith)
      (λ k u there. let old = each (suc k) u there in
      record {
        item = old.item;
        there = get-set_other table w.0 u.0 w.1 (λ e. let no : suc k ≡ 0 = apart (suc k) 0 u w there refl e in omega arith) ∙ old.there;
        none = old.none;
      }) in
      omega arith
