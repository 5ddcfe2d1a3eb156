-- What is known once the lesser of two values is kept.
use Rattle.std.proofs.Common.{◌≡◌, ℕ, ◌/◌, ◌^◌, ◌≤◌, List, length, replicate, ℤ, pos, negsuc, ◌≤ℤ◌, inl, inr, ap, sym, ◌∙◌, subst, arith}
use Rattle.std.proofs.lemmas.Int.{ints}
use Rattle.std.proofs.lemmas.List.{length-set, length-replicate}
use Rattle.std.proofs.lemmas.List.Elements.{All-set, All-replicate}
use Rattle.linear_form.specs.Rows.{RowForm}
use Rattle.number_laws.specs.Floors.{floor_of}
use Rattle.dual_bound.specs.declared.system.System.{System}
use Rattle.dual_bound.specs.declared.trial.Best.{Best}
use Rattle.dual_bound.specs.Conditions.{IsGuess}
use Rattle.dual_bound.specs.Improving.{single}
use Rattle.dual_bound.specs.inside.Steps.{IsKnown, KeepsLesser}
use Rattle.dual_bound.specs.inside.Systems.{value_in}

pub floor-one : (z : ℤ) → floor_of z 1 ≡ z
floor-one (pos n) = let e : n / 1 ≡ n = omega arith in ap (λ (m : ℕ). pos m) e
floor-one (negsuc n) = let e : n / 1 ≡ n = omega arith in ap (λ (m : ℕ). negsuc m) e

pub record Kept (system : System) (old new : Best) (ys : List ℕ) (q : ℕ) : Type 0 where
  pub known : IsKnown system new
  pub before : new.value ≤ℤ old.value
  pub tried : new.value ≤ℤ value_in system ys q

guess-same : (rows : List RowForm) (xs ys : List ℕ) (p q : ℕ) → xs ≡ ys → p ≡ q → IsGuess rows ys q → IsGuess rows xs p
guess-same rows xs ys p q lists numbers guess = rw (lists, numbers) guess

pub kept-known : (system : System) (old new : Best) (ys : List ℕ) (q : ℕ) (value : ℤ) → IsKnown system old → IsGuess system.rows.now ys q →
    value ≡ value_in system ys q → KeepsLesser old new ys q value → Kept system old new ys q
kept-known system old new ys q value known guess valued (inl less) = record {
  known = record {
    guess = guess-same system.rows.now new.y.items ys new.q q less.1 less.2 guess;
    value =
        less.3 ∙ (valued ∙ (ap (λ (xs : List ℕ). value_in system xs q) (sym less.1) ∙ ap (value_in system new.y.items) (sym less.2)));
  };
  before = let low = less.0 in let same = less.3 in omega (arith, ints, low, same);
  tried = let same = less.3 in omega (arith, ints, same, valued);
}
kept-known system old new ys q value known guess valued (inr more) = record {
  known = subst (λ (best : Best). IsKnown system best) (sym more.1) known;
  before = let same = ap (λ (best : Best). best.value) more.1 in omega (arith, ints, same);
  tried = let same = ap (λ (best : Best). best.value) more.1 in let low = more.0 in omega (arith, ints, same, low, valued);
}

pub single-guess : (rows : List RowForm) (n r y : ℕ) → n ≡ length rows → y ≤ 2 ^ 32 → IsGuess rows (single n r y) 1
single-guess rows n r y count few = record {
  as_many = length-set (replicate n 0) r y ∙ (length-replicate n 0 ∙ count);
  within = All-set (λ (x : ℕ). x ≤ 2 ^ 32) (replicate n 0) r y few (All-replicate (λ (x : ℕ). x ≤ 2 ^ 32) n 0 (omega arith));
  some = omega arith;
  most = omega arith;
}

pub zeros-guess : (rows : List RowForm) (n : ℕ) → n ≡ length rows → IsGuess rows (replicate n 0) 1
zeros-guess rows n count = record {
  as_many = length-replicate n 0 ∙ count;
  within = All-replicate (λ (x : ℕ). x ≤ 2 ^ 32) n 0 (omega arith);
  some = omega arith;
  most = omega arith;
}
