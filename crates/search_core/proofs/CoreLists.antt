-- Lists of workers and of notes, where one worker changes or one note is added.
use Rattle.std.proofs.Common.{◌≡◌, ℕ, zero, suc, ◌+◌, ◌*◌, ◌<◌, ◌≤◌, cond, eqb, Bool, true, false, true≢false, Option, Some, None, List, [], ◌∷◌, ◌++◌, length, length-append, length-set, drop, append-nil, set, get_or, refl, sym, ap, ◌∙◌, append_assoc, arith}
use Rattle.work_chains.specs.NodeChains.{NodeNote}
use Rattle.std.specs.Prelude.{map, is_some, is_none, not, ◌&&◌, ◌||◌, IsTrue}
use Rattle.std.specs.List.{flat_map}
use Rattle.number_counts.specs.Counts.{times, HasEachBelow}
use Rattle.number_counts.proofs.CountLaws.{one-same, one-other, times-append}
use mathlib.Core.Logic.{dite}
use native.Mathlib.Decide.{ℕ_discrete}
use Rattle.search_core.specs.declared.note.CoreNote.{CoreNote}
use Rattle.search_core.specs.declared.worker.Worker.{Worker}
use Rattle.search_core.specs.Cores.{part_nodes, node_note, notes_by}
use Rattle.search_core.specs.Events.{has_first}
use Rattle.search_core.specs.Good.{spent_one, spent_count}

-- ---- tests

pub some-is : (o : Option ℕ) → IsTrue (is_some o) → (x : ℕ) × (o ≡ Some x)
some-is None is_so = absurd (true≢false (sym is_so))
some-is (Some x) is_so = (x, refl)

pub none-is : (o : Option ℕ) → IsTrue (is_none o) → o ≡ None
none-is None is_so = refl
none-is (Some x) is_so = absurd (true≢false (sym is_so))

pub not-is : (b : Bool) → IsTrue (not b) → b ≡ false
not-is true is_so = absurd (true≢false (sym is_so))
not-is false is_so = refl

pub and-is : (a b : Bool) → IsTrue (a && b) → IsTrue a × IsTrue b
and-is true b is_so = (refl, is_so)
and-is false b is_so = absurd (true≢false (sym is_so))

pub or-is : (a b : Bool) → IsTrue (a || b) → a ≡ false → IsTrue b
or-is true b is_so no_first = absurd (true≢false no_first)
or-is false b is_so no_first = is_so

pub if-cases : {X : Type 0} (P : X → Type 0) (b : Bool) (x y : X) → (b ≡ true → P x) → (b ≡ false → P y) → P (cond b x y)
if-cases P true x y first second = first refl
if-cases P false x y first second = second refl

-- ---- a list with a first item

-- the first item and the rest
pub has-first : (xs : List ℕ) → IsTrue (has_first xs) → get_or xs 0 0 ∷ drop 1 xs ≡ xs
has-first [] is_so = absurd (true≢false (sym is_so))
has-first (x ∷ xs) is_so = refl

-- ---- one item of a list changes

module _ {X : Type 0} where
  pub flat-last : (f : X → List ℕ) (xs : List X) (y : X) → flat_map f (xs ++ y ∷ []) ≡ flat_map f xs ++ f y
  flat-last f [] y = append-nil (f y)
  flat-last f (x ∷ xs) y = ap (λ (l : List ℕ). f x ++ l) (flat-last f xs y) ∙ sym (append_assoc (f x) (flat_map f xs) (f y))

  pub map-last : {A : Type 0} (f : X → A) (xs : List X) (y : X) → map f (xs ++ y ∷ []) ≡ map f xs ++ f y ∷ []
  map-last {A = A} f [] y = refl
  map-last {A = A} f (x ∷ xs) y = ap (λ (l : List A). f x ∷ l) (map-last f xs y)

  pub set-length : (xs : List X) (i : ℕ) (y : X) → length (set xs i y) ≡ length xs
  set-length xs i y = length-set xs i y

pub spent-set : (workers : List Worker) (w : ℕ) (d v : Worker) → w < length workers
    → spent_count (set workers w v) + spent_one (get_or workers w d) ≡ spent_count workers + spent_one v
spent-set [] w d v lt = absurd (omega arith)
spent-set (x ∷ xs) zero d v lt = omega arith
spent-set (x ∷ xs) (suc w) d v lt = let rest = spent-set xs w d v (omega arith) in omega arith

-- ---- parts and notes

pub parts-append : (ts us : List ℕ) → part_nodes (ts ++ us) ≡ part_nodes ts ++ part_nodes us
parts-append [] us = refl
parts-append (t ∷ ts) us = ap (λ (l : List ℕ). (2 * t + 1) ∷ (2 * t + 2) ∷ l) (parts-append ts us)

pub parts-length : (ts : List ℕ) → length (part_nodes ts) ≡ 2 * length ts
parts-length [] = refl
parts-length (t ∷ ts) = let rest = parts-length ts in omega arith

longer-notes : (n last : NodeNote) (a b : Bool) (xs ys : List NodeNote) → xs ≡ cond b (ys ++ last ∷ []) ys
    → cond a (n ∷ xs) xs ≡ cond b (cond a (n ∷ ys) ys ++ last ∷ []) (cond a (n ∷ ys) ys)
longer-notes n last true true xs ys e = ap (λ (l : List NodeNote). n ∷ l) e
longer-notes n last true false xs ys e = ap (λ (l : List NodeNote). n ∷ l) e
longer-notes n last false true xs ys e = e
longer-notes n last false false xs ys e = e

-- a note of the worker comes last; one of another does not count
pub notes-by-last : (w : ℕ) (notes : List CoreNote) (note : CoreNote)
    → notes_by w (notes ++ note ∷ []) ≡ cond (eqb note.worker w) (notes_by w notes ++ node_note note ∷ []) (notes_by w notes)
notes-by-last w [] note = refl
notes-by-last w (n ∷ notes) note =
    longer-notes (node_note n) (node_note note) (eqb n.worker w) (eqb note.worker w) (notes_by w (notes ++ note ∷ [])) (notes_by w notes)
    (notes-by-last w notes note)

-- ---- what is counted in lists

-- a way of counting: in two lists, one after the other, there is as much as in both together
pub record Measure : Type 0 where
  pub of : List ℕ → ℕ
  pub none : of [] ≡ 0
  pub both : (xs ys : List ℕ) → of (xs ++ ys) ≡ of xs + of ys

-- how often a number stands there
abbrev pub times-measure : ℕ → Measure
times-measure x = record { of = times x; none = refl; both = times-append x }

-- how long it is
abbrev pub length-measure : Measure
length-measure = record { of = length; none = refl; both = length-append }

module _ {X : Type 0} (m : Measure) (f : X → List ℕ) where
  pub counted-set : (xs : List X) (i : ℕ) (d y : X) → i < length xs
      → m.of (flat_map f (set xs i y)) + m.of (f (get_or xs i d)) ≡ m.of (flat_map f xs) + m.of (f y)
  counted-set [] i d y lt = absurd (omega arith)
  counted-set (x ∷ xs) zero d y lt = let a = m.both (f x) (flat_map f xs) in let b = m.both (f y) (flat_map f xs) in omega arith
  counted-set (x ∷ xs) (suc i) d y lt = let rest = counted-set xs i d y (omega arith) in
      let a = m.both (f x) (flat_map f xs) in let b = m.both (f x) (flat_map f (set xs i y)) in omega arith

  pub counted-at : (xs : List X) (i : ℕ) (d : X) → i < length xs → m.of (f (get_or xs i d)) ≤ m.of (flat_map f xs)
  counted-at [] i d lt = absurd (omega arith)
  counted-at (x ∷ xs) zero d lt = let a = m.both (f x) (flat_map f xs) in omega arith
  counted-at (x ∷ xs) (suc i) d lt = let rest = counted-at xs i d (omega arith) in let a = m.both (f x) (flat_map f xs) in omega arith

-- each number below n stands once in a list where every number stands as often
pub each-same : (n : ℕ) (xs ys : List ℕ) → ((x : ℕ) → times x ys ≡ times x xs) → HasEachBelow n xs → HasEachBelow n ys
each-same n xs ys same all = record { once = λ x lt. same x ∙ all.once x lt; no_other = λ x le. same x ∙ all.no_other x le }

-- a part under tickets below n is at most 2n
pub part-bound : (n : ℕ) (ts : List ℕ) → ((t : ℕ) → 0 < times t ts → t < n) → (x : ℕ) → 0 < times x (part_nodes ts) → x ≤ 2 * n
part-bound n [] below x there = absurd (omega arith)
part-bound n (t ∷ ts) below x there =
    let first : t < n = below t (let here = one-same t t refl in omega arith) in
    dite (ℕ_discrete x (2 * t + 1)) (λ e. omega arith)
    (λ ne. dite (ℕ_discrete x (2 * t + 2)) (λ e. omega arith)
    (λ ne'. let a = one-other x (2 * t + 1) ne in let b = one-other x (2 * t + 2) ne' in
    part-bound n ts (λ t' more. below t' (omega arith)) x (omega arith)))
