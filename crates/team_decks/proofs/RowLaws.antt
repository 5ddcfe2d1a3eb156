-- Rows of passes.
use Rattle.std.proofs.Common.{◌≡◌, ◌≢◌, ◌⊎◌, inl, inr, ℕ, ◌+◌, ◌-◌, ◌<◌, ◌≤◌, ◌∙◌, List, [], ◌∷◌, ◌++◌, length, take, drop, set, ap, refl, sym, subst, arith}
use Rattle.std.specs.Prelude.{slice_index_or}
use Rattle.std.proofs.lemmas.Bool.{cases_lt, lt-ltb, le-ltb}
use Rattle.std.proofs.lemmas.List.{length-set, length_push, get_or_push, get_or_append_left}
use Rattle.std.proofs.Math.Seq.{take-append_seam}
use Rattle.task_deck.specs.declared.ends.Door.{Door}
use Rattle.task_deck.specs.declared.ends.DoorPass.{DoorPass}
use Rattle.task_deck.specs.Decks.{IsPassOfDeck, deck_behind, pass_view}
use Rattle.team_decks.specs.Rows.{IsRow, other_at, others_of, place_of}

module _ {X : Type 0} where
  -- a list with one element written into it, as a slice gives it back
  pub written : (xs : List X) (i : ℕ) (x : X) → take (length xs) (set xs i x ++ drop (length (set xs i x)) xs) ≡ set xs i x
  written xs i x =
      ap (λ (n : ℕ). take n (set xs i x ++ drop (length (set xs i x)) xs)) (sym (length-set xs i x))
      ∙ take-append_seam (set xs i x) (drop (length (set xs i x)) xs)

-- ---- others than one

pub others-below : (number count : ℕ) → number < count → others_of number count ≡ count - 1
others-below number count less = rw (lt-ltb number count less) refl

pub others-above : (number count : ℕ) → count ≤ number → others_of number count ≡ count
others-above number count most = rw (le-ltb number count most) refl

other-below : (number place : ℕ) → place < number → other_at number place ≡ place
other-below number place less = rw (lt-ltb place number less) refl

other-above : (number place : ℕ) → number ≤ place → other_at number place ≡ place + 1
other-above number place most = rw (le-ltb place number most) refl

place-below : (number other : ℕ) → other < number → place_of number other ≡ other
place-below number other less = rw (lt-ltb other number less) refl

place-above : (number other : ℕ) → number ≤ other → place_of number other ≡ other - 1
place-above number other most = rw (le-ltb other number most) refl

-- one more, where it is another one
pub others-more : (number count : ℕ) → number ≢ count → others_of number (count + 1) ≡ others_of number count + 1
others-more number count apart = elim (cases_lt number count) [
  | inl less ↦ (let old = others-below number count less in let new = others-below number (count + 1) (omega (arith, less)) in omega (arith, less, old, new))
  | inr most ↦ (let old = others-above number count most in let new = others-above number (count + 1) (omega (arith, most, apart)) in omega (arith, old, new))
]

-- and none more, where it is that one
pub others-same : (number : ℕ) → others_of number (number + 1) ≡ others_of number number
others-same number =
    let old = others-above number number (omega arith) in let new = others-below number (number + 1) (omega arith) in omega (arith, old, new)

-- the others before it have their places below
pub other-within : (number count place : ℕ) → place < others_of number count → other_at number place < count
other-within number count place within = elim (cases_lt number count) [
  | inl less ↦
      let many = others-below number count less in
      elim (cases_lt place number) [
        | inl before ↦ (let is = other-below number place before in omega (arith, is, before, less))
        | inr after ↦ (let is = other-above number place after in omega (arith, is, many, within, less))
      ]
  | inr most ↦
      let many = others-above number count most in
      let is = other-below number place (omega (arith, many, within, most)) in
      omega (arith, is, many, within)
]

-- the next one has the next place
pub other-next : (number count : ℕ) → number ≢ count → other_at number (others_of number count) ≡ count
other-next number count apart = elim (cases_lt number count) [
  | inl less ↦
      let many = others-below number count less in
      let is = other-above number (others_of number count) (omega (arith, many, less)) in
      omega (arith, is, many, less)
  | inr most ↦
      let many = others-above number count most in
      let is = other-below number (others_of number count) (omega (arith, many, most, apart)) in
      omega (arith, is, many)
]

-- among the workers, counted by the number of a deck, a worker's place is how many others stand before it
pub place-is : (deck worker : ℕ) → deck ≢ worker → place_of deck worker ≡ others_of deck worker
place-is deck worker apart = elim (cases_lt worker deck) [
  | inl less ↦ place-below deck worker less ∙ sym (others-above deck worker (omega (arith, less)))
  | inr most ↦ place-above deck worker most ∙ sym (others-below deck worker (omega (arith, most, apart)))
]

-- ---- one row

pub IsRow-none : (doors : List Door) (number : ℕ) → IsRow doors 0 number []
IsRow-none doors number = record {
  many = sym (others-above number 0 (omega arith));
  deck = λ i door pass less. absurd (omega (arith, less));
  place = λ i pass less. absurd (omega (arith, less));
}

-- its own deck gives it no pass
pub IsRow-own : (doors : List Door) (number : ℕ) (row : List DoorPass) → IsRow doors number number row → IsRow doors (number + 1) number row
IsRow-own doors number row is = record { many = is.many ∙ sym (others-same number); deck = is.deck; place = is.place }

pub IsRow-own_back : (doors : List Door) (number : ℕ) (row : List DoorPass) → IsRow doors (number + 1) number row → IsRow doors number number row
IsRow-own_back doors number row is = record { many = is.many ∙ others-same number; deck = is.deck; place = is.place }

-- a door more at the end changes nothing
pub IsRow-doors : (doors : List Door) (door : Door) (count number : ℕ) (row : List DoorPass) → count ≤ length doors → IsRow doors count number row →
    IsRow (doors ++ door ∷ []) count number row
IsRow-doors doors door count number row few is = record {
  many = is.many;
  deck = λ i default pass less.
      (let many = is.many in
      let within = other-within number count i (omega (arith, less, many)) in
      let same = get_or_append_left doors (door ∷ []) default (other_at number i) (omega (arith, within, few)) in
      subst (λ (d : Door). IsPassOfDeck (deck_behind d) (slice_index_or row i pass)) (sym same) (is.deck i default pass less));
  place = is.place;
}

-- the pass at the end, if it is that of this deck
pub record IsNextPass (doors : List Door) (count number : ℕ) (pass : DoorPass) : Type 0 where
  pub deck : (door : Door) → IsPassOfDeck (deck_behind (slice_index_or doors count door)) pass
  pub place : (pass_view pass).number ≡ place_of count number

pub IsRow-more : (doors : List Door) (count number : ℕ) (row : List DoorPass) (pass : DoorPass) → number ≢ count → IsRow doors count number row →
    IsNextPass doors count number pass → IsRow doors (count + 1) number (row ++ pass ∷ [])
IsRow-more doors count number row pass apart is next = record {
  many = length_push row pass ∙ ap (λ (n : ℕ). n + 1) is.many ∙ sym (others-more number count apart);
  deck = λ i door default less. elim (at i less) [
    | inl before ↦ subst (λ (p : DoorPass). IsPassOfDeck (deck_behind (slice_index_or doors (other_at number i) door)) p)
        (sym (get_or_append_left row (pass ∷ []) default i before)) (is.deck i door default before)
    | inr last ↦ subst (λ (p : DoorPass). IsPassOfDeck (deck_behind (slice_index_or doors (other_at number i) door)) p)
        (sym (get_or_push row pass default i last))
        (subst (λ (k : ℕ). IsPassOfDeck (deck_behind (slice_index_or doors k door)) pass) (sym (it i last)) (next.deck door))
  ];
  place = λ i default less. elim (at i less) [
    | inl before ↦ ap (λ (p : DoorPass). (pass_view p).number) (get_or_append_left row (pass ∷ []) default i before) ∙ is.place i default before
    | inr last ↦ ap (λ (p : DoorPass). (pass_view p).number) (get_or_push row pass default i last) ∙ next.place
        ∙ ap (λ (k : ℕ). place_of k number) (sym (it i last))
  ];
}
  where
    at : (i : ℕ) → i < length (row ++ pass ∷ []) → (i < length row) ⊎ (length row ≡ i)
    at i less = (let more = length_push row pass in elim (cases_lt i (length row)) [
      | inl before ↦ inl before
      | inr past ↦ inr (omega (arith, less, more, past))
    ])

    it : (i : ℕ) → length row ≡ i → other_at number i ≡ count
    it i last = ap (λ (k : ℕ). other_at number k) (sym last ∙ is.many) ∙ other-next number count apart

-- and back again
module _ (doors : List Door) (count number : ℕ) (row : List DoorPass) (pass : DoorPass) (apart : number ≢ count)
    (is : IsRow doors (count + 1) number (row ++ pass ∷ [])) where
  last : length row ≡ others_of number count
  last = (let many = is.many in let more = length_push row pass in let others = others-more number count apart in omega (arith, many, more, others))

  within : length row < length (row ++ pass ∷ [])
  within = (let more = length_push row pass in omega (arith, more))

  it : other_at number (length row) ≡ count
  it = ap (λ (k : ℕ). other_at number k) last ∙ other-next number count apart

  pub IsRow-less : IsRow doors count number row
  IsRow-less = record {
    many = last;
    deck = λ i door default less. subst (λ (p : DoorPass). IsPassOfDeck (deck_behind (slice_index_or doors (other_at number i) door)) p)
        (get_or_append_left row (pass ∷ []) default i less) (is.deck i door default (omega (arith, less, within)));
    place = λ i default less. ap (λ (p : DoorPass). (pass_view p).number) (sym (get_or_append_left row (pass ∷ []) default i less))
        ∙ is.place i default (omega (arith, less, within));
  }

  pub IsNextPass-last : IsNextPass doors count number pass
  IsNextPass-last = record {
    deck = λ door. subst (λ (k : ℕ). IsPassOfDeck (deck_behind (slice_index_or doors k door)) pass) it
        (subst (λ (p : DoorPass). IsPassOfDeck (deck_behind (slice_index_or doors (other_at number (length row)) door)) p)
        (get_or_push row pass pass (length row) refl) (is.deck (length row) door pass within));
    place = ap (λ (p : DoorPass). (pass_view p).number) (sym (get_or_push row pass pass (length row) refl)) ∙ is.place (length row) pass within
        ∙ ap (λ (k : ℕ). place_of k number) it;
  }
