-- Dealing decks out to all workers.
use Rattle.std.proofs.Common.{◌≡◌, ◌≢◌, ◌⊎◌, inl, inr, ℕ, ◌+◌, ◌-◌, ◌<◌, ◌≤◌, ◌∙◌, List, [], ◌∷◌, ◌++◌, length, set, ap, refl, sym, subst, arith}
use Rattle.std.specs.Prelude.{All, slice_index_or}
use Rattle.std.proofs.lemmas.Bool.{cases_eq, cases_lt, lt-ltb, le-ltb}
use Rattle.std.proofs.lemmas.List.{length-set, length_push, get_or-set_same, get_or-set_other, get_or_append_left, get_or_push}
use Rattle.std.proofs.lemmas.List.Elements.{All-push}
use Rattle.task_deck.specs.declared.ends.Door.{Door}
use Rattle.task_deck.specs.declared.ends.DoorPass.{DoorPass}
use Rattle.task_deck.specs.declared.ends.Owner.{Owner}
use Rattle.task_deck.specs.Decks.{DeckId, IsPassOfDeck, OwnerView, PassView, deck_behind, deck_of, owner_view, pass_view}
use Rattle.team_decks.specs.Dealing.{AreDealt, HaveStolenNone, IsUntouched}
use Rattle.team_decks.specs.Rows.{IsRow, one_more_below, others_of}
use Rattle.team_decks.specs.inside.Dealt.{AreDealtSoFar, IsDealing}
use Rattle.team_decks.proofs.RowLaws.{IsNextPass, IsRow-doors, IsRow-more, IsRow-none, IsRow-own, others-above, others-below, others-more, others-same, place-is}

-- ---- how many doors a worker has passes for

more-below : (count worker number : ℕ) → number < worker → one_more_below count worker number ≡ count + 1
more-below count worker number less = rw (lt-ltb number worker less) refl

more-past : (count worker number : ℕ) → worker ≤ number → one_more_below count worker number ≡ count
more-past count worker number most = rw (le-ltb number worker most) refl

-- it is so of every other worker when one more was served
more-other : (count worker number : ℕ) → number ≢ worker → one_more_below count worker number ≡ one_more_below count (worker + 1) number
more-other count worker number apart = elim (cases_lt number worker) [
  | inl less ↦ more-below count worker number less ∙ sym (more-below count (worker + 1) number (omega (arith, less)))
  | inr most ↦ more-past count worker number most ∙ sym (more-past count (worker + 1) number (omega (arith, most, apart)))
]

-- ---- one element of a list is another

All-set : {X : Type 0} (P : X → Type 0) (xs : List X) (i : ℕ) (x : X) → All P xs → P x → All P (set xs i x)
All-set P xs i x all is k d inside = elim (cases_eq k i) [
  | inl here ↦
      let long = length-set xs i x in
      subst P (sym (ap (λ (n : ℕ). slice_index_or (set xs i x) n d) here ∙ get_or-set_same xs i x d (omega (arith, here, inside, long)))) is
  | inr apart ↦ (let long = length-set xs i x in subst P (sym (get_or-set_other xs i k x d apart)) (all k d (omega (arith, inside, long))))
]

-- ---- one worker more

-- its own deck's worker is passed over
pub IsDealing-own : (doors : List Door) (number : ℕ) (owner : Owner) (rows : List (List DoorPass)) → IsDealing doors number number owner rows →
    IsDealing doors number (number + 1) owner rows
IsDealing-own doors number owner rows is = record {
  deck = is.deck;
  made = is.made ∙ ap (λ (n : ℕ). record { pushed = []; popped = []; passes = n }) (sym (others-same number));
  given = λ worker row inside. elim (cases_eq worker number) [
    | inl here ↦
        let row_is = slice_index_or rows worker row in
        let before : IsRow doors worker worker row_is =
        subst (λ (n : ℕ). IsRow doors n worker row_is) (more-past number number worker (omega (arith, here)) ∙ sym here) (is.given worker row inside) in
        subst (λ (n : ℕ). IsRow doors n worker row_is)
        (ap (λ (n : ℕ). n + 1) here ∙ sym (more-below number (number + 1) worker (omega (arith, here)))) (IsRow-own doors worker row_is before)
    | inr apart ↦ subst (λ (n : ℕ). IsRow doors n worker (slice_index_or rows worker row)) (more-other number number worker apart) (is.given worker row inside)
  ];
  stolen = is.stolen;
}

-- any other one gets a pass
pub IsDealing-given : (doors : List Door) (number worker : ℕ) (old new : Owner) (rows : List (List DoorPass)) (pass : DoorPass) (default : List DoorPass) →
    worker ≢ number → worker < length rows → IsDealing doors number worker old rows → deck_of new ≡ deck_of old →
    owner_view new ≡ record (owner_view old) { passes = (owner_view old).passes + 1 } →
    pass_view pass ≡ record { number = (owner_view old).passes; stolen = [] } → IsPassOfDeck (deck_of old) pass →
    IsDealing doors number (worker + 1) new (set rows worker (slice_index_or rows worker default ++ pass ∷ []))
IsDealing-given doors number worker old new rows pass default apart inside is deck made numbered of = record {
  deck = λ door. deck ∙ is.deck door;
  made = made ∙ ap (λ (v : OwnerView). record v { passes = v.passes + 1 }) is.made
      ∙ ap (λ (n : ℕ). record { pushed = []; popped = []; passes = n }) (sym (others-more number worker (λ same. apart (sym same))));
  given = λ other row within. elim (cases_eq other worker) [
    | inl here ↦
        let it = slice_index_or rows worker default in
        let before : IsRow doors number worker it =
        subst (λ (n : ℕ). IsRow doors n worker it) (more-past number worker worker (omega arith)) (is.given worker default inside) in
        let after = IsRow-more doors number worker it pass apart before next in
        let there : slice_index_or (set rows worker (it ++ pass ∷ [])) other row ≡ it ++ pass ∷ [] =
        ap (λ (n : ℕ). slice_index_or (set rows worker (it ++ pass ∷ [])) n row) here ∙ get_or-set_same rows worker (it ++ pass ∷ []) row inside in
        subst (λ (l : List DoorPass). IsRow doors (one_more_below number (worker + 1) other) other l) (sym there)
        (subst (λ (n : ℕ). IsRow doors (one_more_below number (worker + 1) n) n (it ++ pass ∷ [])) (sym here)
        (subst (λ (n : ℕ). IsRow doors n worker (it ++ pass ∷ [])) (sym (more-below number (worker + 1) worker (omega arith))) after))
    | inr elsewhere ↦
        let long = length-set rows worker (slice_index_or rows worker default ++ pass ∷ []) in
        subst (λ (l : List DoorPass). IsRow doors (one_more_below number (worker + 1) other) other l)
        (sym (get_or-set_other rows worker other (slice_index_or rows worker default ++ pass ∷ []) row elsewhere))
        (subst (λ (n : ℕ). IsRow doors n other (slice_index_or rows other row)) (more-other number worker other elsewhere)
        (is.given other row (omega (arith, within, long))))
  ];
  stolen = All-set HaveStolenNone rows worker (slice_index_or rows worker default ++ pass ∷ []) is.stolen
      (All-push (λ (p : DoorPass). (pass_view p).stolen ≡ []) (slice_index_or rows worker default) pass (is.stolen worker default inside)
      (ap (λ (v : PassView). v.stolen) numbered));
}
  where
    next : IsNextPass doors number worker pass
    next = record {
      deck = λ door. subst (λ (d : DeckId). IsPassOfDeck d pass) (is.deck door) of;
      place = ap (λ (v : PassView). v.number) numbered ∙ ap (λ (v : OwnerView). v.passes) is.made ∙ sym (place-is number worker (λ same. apart (sym same)));
    }

-- ---- one deck more

pub dealt-none : (workers : ℕ) (rows : List (List DoorPass)) → length rows ≡ workers → All (λ (row : List DoorPass). row ≡ []) rows →
    AreDealtSoFar 0 workers [] [] rows
dealt-none workers rows many empty = record {
  each_door = refl;
  each_owner = record {
    many = refl;
    deck = λ i owner door less. absurd (omega (arith, less));
    passes = λ i owner less. absurd (omega (arith, less));
  };
  untouched = λ k d inside. absurd (omega (arith, inside));
  each_row = many;
  dealt = λ number row inside. subst (λ (l : List DoorPass). IsRow [] 0 number l) (sym (empty number row inside)) (IsRow-none [] number);
  none_stolen = λ k d inside. subst HaveStolenNone (sym (empty k d inside)) (λ j pass within. absurd (omega (arith, within)));
}

module _ (count workers : ℕ) (doors : List Door) (owners : List Owner) (rows dealt_rows : List (List DoorPass)) (door : Door) (fresh owner : Owner)
    (so_far : AreDealtSoFar count workers doors owners rows) (less : count < workers)
    (empty : owner_view fresh ≡ record { pushed = []; popped = []; passes = 0 }) (one : deck_behind door ≡ deck_of fresh)
    (deals : (all : List Door) → IsDealing all count 0 fresh rows → IsDealing all count (length rows) owner dealt_rows)
    (same : length dealt_rows ≡ length rows) where
  abbrev more_doors : List Door
  more_doors = doors ++ door ∷ []

  first : IsDealing more_doors count 0 fresh rows
  first = record {
    deck = λ d. sym one ∙ ap (λ (e : Door). deck_behind e) (sym (get_or_push doors door d count so_far.each_door));
    made = empty ∙ ap (λ (n : ℕ). record { pushed = []; popped = []; passes = n }) (sym (others-above count 0 (omega arith)));
    given = λ number row inside. subst (λ (n : ℕ). IsRow more_doors n number (slice_index_or rows number row)) (sym (more-past count 0 number (omega arith)))
        (IsRow-doors doors door count number (slice_index_or rows number row) (let many = so_far.each_door in omega (arith, many)) (so_far.dealt number row inside));
    stolen = so_far.none_stolen;
  }

  last : IsDealing more_doors count (length rows) owner dealt_rows
  last = deals more_doors first

  at : (i : ℕ) → i < length (owners ++ owner ∷ []) → (i < length owners) ⊎ (length owners ≡ i)
  at i within = (let more = length_push owners owner in elim (cases_lt i (length owners)) [
    | inl before ↦ inl before
    | inr past ↦ inr (omega (arith, within, more, past))
  ])

  lengths : length owners ≡ count
  lengths = so_far.each_owner.many ∙ so_far.each_door

  passes-last : (owner_view owner).passes ≡ workers - 1
  passes-last = ap (λ (v : OwnerView). v.passes) last.made ∙ ap (λ (n : ℕ). others_of count n) so_far.each_row ∙ others-below count workers less

  pub dealt-more : AreDealtSoFar (count + 1) workers more_doors (owners ++ owner ∷ []) dealt_rows
  dealt-more = record {
    each_door = length_push doors door ∙ ap (λ (n : ℕ). n + 1) so_far.each_door;
    each_owner = record {
      many = length_push owners owner ∙ ap (λ (n : ℕ). n + 1) so_far.each_owner.many ∙ sym (length_push doors door);
      deck = λ i o d within. elim (at i within) [
        | inl before ↦
            let owner_is = get_or_append_left owners (owner ∷ []) o i before in
            let many = so_far.each_owner.many in
            let door_is = get_or_append_left doors (door ∷ []) d i (omega (arith, before, many)) in
            ap (λ (e : Owner). deck_of e) owner_is ∙ so_far.each_owner.deck i o d before ∙ ap (λ (e : Door). deck_behind e) (sym door_is)
        | inr end ↦ ap (λ (e : Owner). deck_of e) (get_or_push owners owner o i end) ∙ last.deck d
            ∙ ap (λ (k : ℕ). deck_behind (slice_index_or more_doors k d)) (sym lengths ∙ end)
      ];
      passes = λ i o within. elim (at i within) [
        | inl before ↦ ap (λ (e : Owner). (owner_view e).passes) (get_or_append_left owners (owner ∷ []) o i before) ∙ so_far.each_owner.passes i o before
        | inr end ↦ ap (λ (e : Owner). (owner_view e).passes) (get_or_push owners owner o i end) ∙ passes-last
      ];
    };
    untouched = All-push IsUntouched owners owner so_far.untouched
        (record { pushed = ap (λ (v : OwnerView). v.pushed) last.made; popped = ap (λ (v : OwnerView). v.popped) last.made });
    each_row = same ∙ so_far.each_row;
    dealt = λ number row inside. subst (λ (n : ℕ). IsRow more_doors n number (slice_index_or dealt_rows number row))
        (more-below count (length rows) number (omega (arith, inside, same))) (last.given number row inside);
    none_stolen = last.stolen;
  }

pub dealt-all : (count workers : ℕ) (doors : List Door) (owners : List Owner) (rows : List (List DoorPass)) → workers ≡ count →
    AreDealtSoFar count workers doors owners rows → AreDealt workers doors owners rows
dealt-all count workers doors owners rows all is = record {
  each_door = is.each_door ∙ sym all;
  each_owner = is.each_owner;
  untouched = is.untouched;
  each_row = is.each_row;
  dealt = λ number row inside. subst (λ (n : ℕ). IsRow doors n number (slice_index_or rows number row)) (sym all) (is.dealt number row inside);
  none_stolen = is.none_stolen;
}
