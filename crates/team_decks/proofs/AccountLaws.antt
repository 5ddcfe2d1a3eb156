-- Accounting for all decks.
use Rattle.std.proofs.Common.{◌≡◌, ◌≢◌, inl, inr, ℕ, zero, suc, ◌+◌, ◌<◌, ◌≤◌, ◌∙◌, List, [], ◌∷◌, ◌++◌, length, set, ap, refl, sym, subst, arith}
use Rattle.std.specs.Prelude.{IsPermutation, slice_index_or}
use Rattle.std.proofs.lemmas.Bool.{cases_eq, cases_lt, lt-ltb, le-ltb}
use Rattle.std.proofs.lemmas.List.{append_assoc, append-nil, length-set, length_push, get_or-set_same, get_or-set_other, get_or_append_left, get_or_push, length-append}
use Rattle.std.proofs.lemmas.List.Sorted.{IsPermutation-refl, IsPermutation-sym, IsPermutation-trans, IsPermutation-append, IsPermutation-append_comm, IsPermutation-append_left, IsPermutation-append_right, IsPermutation-to_front}
use Rattle.slot_box.specs.Tasks.{TaskParts}
use Rattle.task_deck.specs.declared.ends.Door.{Door}
use Rattle.task_deck.specs.declared.ends.DoorPass.{DoorPass}
use Rattle.task_deck.specs.declared.ends.Owner.{Owner}
use Rattle.task_deck.specs.Accounts.{all_stolen}
use Rattle.task_deck.specs.Decks.{ArePassesFrom, DeckId, IsPassOfDeck, deck_behind, deck_of, owner_view, pass_view}
use Rattle.team_decks.specs.Dealing.{AreLeftOf, AreOwners, popped_by_all, pushed_by_all}
use Rattle.team_decks.specs.Rows.{AreRows, IsRow, one_less_below, others_of, stolen_by_all}
use Rattle.team_decks.specs.inside.Dealt.{IsAccounted, IsAccounting, IsReturning}
use Rattle.team_decks.proofs.RowLaws.{IsNextPass, IsNextPass-last, IsRow-less, IsRow-own_back, others-above, others-more, others-same, place-is}

-- one of the second list is put at the end of the first
pub one-moved : {X : Type 0} (xs left more : List X) (x : X) → IsPermutation xs (left ++ (more ++ x ∷ [])) → IsPermutation xs ((left ++ x ∷ []) ++ more)
one-moved xs left more x same =
    subst (IsPermutation xs) (sym (append_assoc left (x ∷ []) more))
    (IsPermutation-trans xs (left ++ (more ++ x ∷ [])) (left ++ x ∷ more) same
    (IsPermutation-append_right left (more ++ x ∷ []) (x ∷ more) (IsPermutation-to_front more x)))

-- ---- lists of the same elements

module _ {X : Type 0} where
  last-swapped : (a b c : List X) → IsPermutation ((a ++ b) ++ c) ((a ++ c) ++ b)
  last-swapped a b c =
      subst (λ (l : List X). IsPermutation l ((a ++ c) ++ b)) (sym (append_assoc a b c))
      (subst (IsPermutation (a ++ (b ++ c))) (sym (append_assoc a c b)) (IsPermutation-append_right a (b ++ c) (c ++ b) (IsPermutation-append_comm b c)))

  interchanged : (a b c d : List X) → IsPermutation ((a ++ b) ++ (c ++ d)) ((a ++ c) ++ (b ++ d))
  interchanged a b c d =
      subst (λ (l : List X). IsPermutation l ((a ++ c) ++ (b ++ d))) (append_assoc (a ++ b) c d)
      (subst (IsPermutation (((a ++ b) ++ c) ++ d)) (append_assoc (a ++ c) b d)
      (IsPermutation-append_left d ((a ++ b) ++ c) ((a ++ c) ++ b) (last-swapped a b c)))

  -- what was popped, is left and is gone of one deck, put to that of others
  put-together : (a b c d e f : List X) → IsPermutation (((a ++ b) ++ c) ++ ((d ++ e) ++ f)) (((a ++ d) ++ (e ++ c)) ++ (f ++ b))
  put-together a b c d e f =
      let first = interchanged (a ++ b) c (d ++ e) f in
      let second : IsPermutation (((a ++ b) ++ (d ++ e)) ++ (c ++ f)) (((a ++ d) ++ (b ++ e)) ++ (c ++ f)) =
      IsPermutation-append_left (c ++ f) ((a ++ b) ++ (d ++ e)) ((a ++ d) ++ (b ++ e)) (interchanged a b d e) in
      let inner : IsPermutation ((b ++ e) ++ (c ++ f)) ((e ++ c) ++ (f ++ b)) =
      IsPermutation-trans ((b ++ e) ++ (c ++ f)) ((e ++ b) ++ (c ++ f)) ((e ++ c) ++ (f ++ b))
      (IsPermutation-append_left (c ++ f) (b ++ e) (e ++ b) (IsPermutation-append_comm b e))
      (IsPermutation-trans ((e ++ b) ++ (c ++ f)) ((e ++ c) ++ (b ++ f)) ((e ++ c) ++ (f ++ b)) (interchanged e b c f)
      (IsPermutation-append_right (e ++ c) (b ++ f) (f ++ b) (IsPermutation-append_comm b f))) in
      let third : IsPermutation (((a ++ d) ++ (b ++ e)) ++ (c ++ f)) (((a ++ d) ++ (e ++ c)) ++ (f ++ b)) =
      subst (λ (l : List X). IsPermutation l (((a ++ d) ++ (e ++ c)) ++ (f ++ b))) (sym (append_assoc (a ++ d) (b ++ e) (c ++ f)))
      (subst (IsPermutation ((a ++ d) ++ ((b ++ e) ++ (c ++ f)))) (sym (append_assoc (a ++ d) (e ++ c) (f ++ b)))
      (IsPermutation-append_right (a ++ d) ((b ++ e) ++ (c ++ f)) ((e ++ c) ++ (f ++ b)) inner)) in
      IsPermutation-trans (((a ++ b) ++ c) ++ ((d ++ e) ++ f)) (((a ++ b) ++ (d ++ e)) ++ (c ++ f)) (((a ++ d) ++ (e ++ c)) ++ (f ++ b)) first
      (IsPermutation-trans (((a ++ b) ++ (d ++ e)) ++ (c ++ f)) (((a ++ d) ++ (b ++ e)) ++ (c ++ f)) (((a ++ d) ++ (e ++ c)) ++ (f ++ b)) second third)

-- ---- what passes stole

all_stolen-push : (passes : List DoorPass) (pass : DoorPass) → all_stolen (passes ++ pass ∷ []) ≡ all_stolen passes ++ (pass_view pass).stolen
all_stolen-push [] pass = append-nil (pass_view pass).stolen
all_stolen-push (first ∷ passes) pass =
    ap (λ (l : List TaskParts). (pass_view first).stolen ++ l) (all_stolen-push passes pass)
    ∙ sym (append_assoc (pass_view first).stolen (all_stolen passes) (pass_view pass).stolen)

stolen-taken : (rows : List (List DoorPass)) (worker : ℕ) (left : List DoorPass) (pass : DoorPass) → worker < length rows →
    ((row : List DoorPass) → slice_index_or rows worker row ≡ left ++ pass ∷ []) →
    IsPermutation (stolen_by_all rows) (stolen_by_all (set rows worker left) ++ (pass_view pass).stolen)
stolen-taken [] worker left pass less is = absurd (omega (arith, less))
stolen-taken (row ∷ rows) zero left pass less is =
    let all : all_stolen row ≡ all_stolen left ++ (pass_view pass).stolen = ap (λ (l : List DoorPass). all_stolen l) (is []) ∙ all_stolen-push left pass in
    subst (λ (l : List TaskParts). IsPermutation (l ++ stolen_by_all rows) ((all_stolen left ++ stolen_by_all rows) ++ (pass_view pass).stolen)) (sym all)
    (last-swapped (all_stolen left) (pass_view pass).stolen (stolen_by_all rows))
stolen-taken (row ∷ rows) (suc worker) left pass less is =
    subst (IsPermutation (all_stolen row ++ stolen_by_all rows))
    (sym (append_assoc (all_stolen row) (stolen_by_all (set rows worker left)) (pass_view pass).stolen))
    (IsPermutation-append_right (all_stolen row) (stolen_by_all rows) (stolen_by_all (set rows worker left) ++ (pass_view pass).stolen)
    (stolen-taken rows worker left pass (omega (arith, less)) is))

passes-push : (deck : DeckId) (first : ℕ) (passes : List DoorPass) (pass : DoorPass) → ArePassesFrom deck first passes → IsPassOfDeck deck pass →
    (pass_view pass).number ≡ first + length passes → ArePassesFrom deck first (passes ++ pass ∷ [])
passes-push deck first [] pass are of number = (of, omega (arith, number), tt)
passes-push deck first (other ∷ passes) pass are of number =
    (are.0, are.1, passes-push deck (suc first) passes pass are.2 of (omega (arith, number)))

-- ---- how many doors a worker still has passes for

less-below : (count worker number : ℕ) → number < worker → one_less_below count worker number ≡ count
less-below count worker number less = rw (lt-ltb number worker less) refl

less-past : (count worker number : ℕ) → worker ≤ number → one_less_below count worker number ≡ count + 1
less-past count worker number most = rw (le-ltb number worker most) refl

less-other : (count worker number : ℕ) → number ≢ worker → one_less_below count worker number ≡ one_less_below count (worker + 1) number
less-other count worker number apart = elim (cases_lt number worker) [
  | inl less ↦ less-below count worker number less ∙ sym (less-below count (worker + 1) number (omega (arith, less)))
  | inr most ↦ less-past count worker number most ∙ sym (less-past count (worker + 1) number (omega (arith, most, apart)))
]

-- ---- one worker more gives back

pub returning-none : (doors : List Door) (number : ℕ) (rows : List (List DoorPass)) → AreRows doors (λ worker. number + 1) rows →
    IsReturning doors number 0 rows rows []
returning-none doors number rows dealt = record {
  each_row = refl;
  left = λ worker row inside.
      subst (λ (n : ℕ). IsRow doors n worker (slice_index_or rows worker row)) (sym (less-past number 0 worker (omega arith))) (dealt worker row inside);
  back = λ door. tt;
  many = sym (others-above number 0 (omega arith));
  stolen = subst (IsPermutation (stolen_by_all rows)) (sym (append-nil (stolen_by_all rows))) (IsPermutation-refl (stolen_by_all rows));
}

pub returning-own : (doors : List Door) (number : ℕ) (first rows : List (List DoorPass)) (passes : List DoorPass) →
    IsReturning doors number number first rows passes → IsReturning doors number (number + 1) first rows passes
returning-own doors number first rows passes is = record {
  each_row = is.each_row;
  left = λ worker row inside. elim (cases_eq worker number) [
    | inl here ↦
        let it = slice_index_or rows worker row in
        let before : IsRow doors (worker + 1) worker it =
        subst (λ (n : ℕ). IsRow doors n worker it) (less-past number number worker (omega (arith, here)) ∙ ap (λ (n : ℕ). n + 1) (sym here))
        (is.left worker row inside) in
        subst (λ (n : ℕ). IsRow doors n worker it) (here ∙ sym (less-below number (number + 1) worker (omega (arith, here)))) (IsRow-own_back doors worker it before)
    | inr apart ↦ subst (λ (n : ℕ). IsRow doors n worker (slice_index_or rows worker row)) (less-other number number worker apart) (is.left worker row inside)
  ];
  back = is.back;
  many = is.many ∙ sym (others-same number);
  stolen = is.stolen;
}

module _ (doors : List Door) (number worker : ℕ) (first rows : List (List DoorPass)) (passes left : List DoorPass) (pass : DoorPass)
    (is : IsReturning doors number worker first rows passes) (apart : worker ≢ number) (inside : worker < length rows)
    (taken : (row : List DoorPass) → slice_index_or rows worker row ≡ left ++ pass ∷ []) where
  whole : IsRow doors (number + 1) worker (left ++ pass ∷ [])
  whole = subst (λ (n : ℕ). IsRow doors n worker (left ++ pass ∷ [])) (less-past number worker worker (omega arith))
      (subst (λ (l : List DoorPass). IsRow doors (one_less_below number worker worker) worker l) (taken []) (is.left worker [] inside))

  next : IsNextPass doors number worker pass
  next = IsNextPass-last doors number worker left pass apart whole

  numbered : (pass_view pass).number ≡ 0 + length passes
  numbered =
      let place = next.place ∙ place-is number worker (λ same. apart (sym same)) ∙ sym is.many in omega (arith, place)

  pub returning-taken : IsReturning doors number (worker + 1) first (set rows worker left) (passes ++ pass ∷ [])
  returning-taken = record {
    each_row = length-set rows worker left ∙ is.each_row;
    left = λ other row within. elim (cases_eq other worker) [
      | inl here ↦
          let there : slice_index_or (set rows worker left) other row ≡ left =
          ap (λ (n : ℕ). slice_index_or (set rows worker left) n row) here ∙ get_or-set_same rows worker left row inside in
          subst (λ (l : List DoorPass). IsRow doors (one_less_below number (worker + 1) other) other l) (sym there)
          (subst (λ (n : ℕ). IsRow doors (one_less_below number (worker + 1) n) n left) (sym here)
          (subst (λ (n : ℕ). IsRow doors n worker left) (sym (less-below number (worker + 1) worker (omega arith)))
          (IsRow-less doors number worker left pass apart whole)))
      | inr elsewhere ↦
          let long = length-set rows worker left in
          subst (λ (l : List DoorPass). IsRow doors (one_less_below number (worker + 1) other) other l) (sym (get_or-set_other rows worker other left row elsewhere))
          (subst (λ (n : ℕ). IsRow doors n other (slice_index_or rows other row)) (less-other number worker other elsewhere)
          (is.left other row (omega (arith, within, long))))
    ];
    back = λ door. passes-push (deck_behind (slice_index_or doors number door)) 0 passes pass (is.back door) (next.deck door) numbered;
    many = length_push passes pass ∙ ap (λ (n : ℕ). n + 1) is.many ∙ sym (others-more number worker (λ same. apart (sym same)));
    stolen =
        let stole = (pass_view pass).stolen in
        let rest = stolen_by_all (set rows worker left) in
        let step : IsPermutation (stolen_by_all rows ++ all_stolen passes) ((rest ++ stole) ++ all_stolen passes) =
        IsPermutation-append_left (all_stolen passes) (stolen_by_all rows) (rest ++ stole) (stolen-taken rows worker left pass inside taken) in
        let same : (rest ++ all_stolen passes) ++ stole ≡ rest ++ all_stolen (passes ++ pass ∷ []) =
        append_assoc rest (all_stolen passes) stole ∙ ap (λ (l : List TaskParts). rest ++ l) (sym (all_stolen-push passes pass)) in
        subst (IsPermutation (stolen_by_all first)) same
        (IsPermutation-trans (stolen_by_all first) (stolen_by_all rows ++ all_stolen passes) ((rest ++ all_stolen passes) ++ stole) is.stolen
        (IsPermutation-trans (stolen_by_all rows ++ all_stolen passes) ((rest ++ stole) ++ all_stolen passes) ((rest ++ all_stolen passes) ++ stole) step
        (last-swapped rest stole (all_stolen passes))));
  }

-- a worker that is not the deck's own still has a pass
pub some-pass : (doors : List Door) (number worker : ℕ) (rows : List (List DoorPass)) (row : List DoorPass) → AreRows doors (one_less_below number worker) rows →
    worker ≢ number → worker < length rows → 0 < length (slice_index_or rows worker row)
some-pass doors number worker rows row dealt apart inside =
    let is = dealt worker row inside in
    let many = is.many ∙ ap (λ (n : ℕ). others_of worker n) (less-past number worker worker (omega arith)) ∙ others-more worker number apart in
    omega (arith, many)

-- all have given back
pub returned-rows : (doors : List Door) (number worker : ℕ) (first rows : List (List DoorPass)) (passes : List DoorPass) → length first ≡ worker →
    IsReturning doors number worker first rows passes → AreRows doors (λ each. number) rows
returned-rows doors number worker first rows passes all is = λ each row inside.
    (let many = is.each_row in
    subst (λ (n : ℕ). IsRow doors n each (slice_index_or rows each row)) (less-below number worker each (omega (arith, inside, many, all))) (is.left each row inside))

-- ---- one deck more is accounted for

pub accounting-none : (doors : List Door) (owners : List Owner) (rows : List (List DoorPass)) → length owners ≡ length doors →
    AreRows doors (λ worker. length doors) rows → IsAccounting doors doors owners owners rows rows []
accounting-none doors owners rows both dealt = record {
  both = both;
  past = [];
  doors_are = sym (append-nil doors);
  done = [];
  owners_are = sym (append-nil owners);
  each_row = refl;
  dealt = dealt;
  gone = [];
  account = IsPermutation-refl [];
  stolen = subst (IsPermutation (stolen_by_all rows)) (sym (append-nil (stolen_by_all rows))) (IsPermutation-refl (stolen_by_all rows));
}

module _ (doors all_doors : List Door) (owners all_owners : List Owner) (first rows next : List (List DoorPass)) (left after : List TaskParts) (door : Door)
    (owner : Owner) (is : IsAccounting (doors ++ door ∷ []) all_doors (owners ++ owner ∷ []) all_owners first rows left) where
  pub both-less : length owners ≡ length doors
  both-less = (let both = is.both in let more = length_push owners owner in let others = length_push doors door in omega (arith, both, more, others))

  -- the rows are dealt out for the doors that are left and this one
  pub dealt-here : AreRows all_doors (λ worker. length owners + 1) rows
  dealt-here worker row inside =
      subst (λ (n : ℕ). IsRow all_doors n worker (slice_index_or rows worker row)) (length_push doors door ∙ ap (λ (n : ℕ). n + 1) (sym both-less))
      (is.dealt worker row inside)

  pub accounting-more : IsAccounted all_doors (length owners) owner rows next left after → IsAccounting doors all_doors owners all_owners first next after
  accounting-more last = record {
    both = both-less;
    past = door ∷ is.past;
    doors_are = is.doors_are ∙ append_assoc doors (door ∷ []) is.past;
    done = owner ∷ is.done;
    owners_are = is.owners_are ∙ append_assoc owners (owner ∷ []) is.done;
    each_row = last.each_row ∙ is.each_row;
    dealt = λ worker row inside. subst (λ (n : ℕ). IsRow all_doors n worker (slice_index_or next worker row)) both-less (last.dealt worker row inside);
    gone = is.gone ++ last.gone;
    account =
        let popped = (owner_view owner).popped in
        let others = popped_by_all is.done in
        let apart : IsPermutation ((owner_view owner).pushed ++ pushed_by_all is.done) (((popped ++ last.more) ++ last.gone) ++ ((others ++ is.gone) ++ left)) =
        IsPermutation-append (owner_view owner).pushed ((popped ++ last.more) ++ last.gone) (pushed_by_all is.done) ((others ++ is.gone) ++ left) last.account
        is.account in
        let together : IsPermutation (((popped ++ last.more) ++ last.gone) ++ ((others ++ is.gone) ++ left))
        (((popped ++ others) ++ (is.gone ++ last.gone)) ++ (left ++ last.more)) = put-together popped last.more last.gone others is.gone left in
        IsPermutation-trans ((owner_view owner).pushed ++ pushed_by_all is.done) (((popped ++ last.more) ++ last.gone) ++ ((others ++ is.gone) ++ left))
        (((popped ++ others) ++ (is.gone ++ last.gone)) ++ after) apart
        (IsPermutation-trans (((popped ++ last.more) ++ last.gone) ++ ((others ++ is.gone) ++ left))
        (((popped ++ others) ++ (is.gone ++ last.gone)) ++ (left ++ last.more)) (((popped ++ others) ++ (is.gone ++ last.gone)) ++ after) together
        (IsPermutation-append_right ((popped ++ others) ++ (is.gone ++ last.gone)) (left ++ last.more) after last.left));
    stolen =
        let step : IsPermutation (stolen_by_all rows ++ is.gone) ((stolen_by_all next ++ last.gone) ++ is.gone) =
        IsPermutation-append_left is.gone (stolen_by_all rows) (stolen_by_all next ++ last.gone) last.stolen in
        let swapped : IsPermutation ((stolen_by_all next ++ last.gone) ++ is.gone) (stolen_by_all next ++ (is.gone ++ last.gone)) =
        subst (IsPermutation ((stolen_by_all next ++ last.gone) ++ is.gone)) (append_assoc (stolen_by_all next) is.gone last.gone)
        (last-swapped (stolen_by_all next) last.gone is.gone) in
        IsPermutation-trans (stolen_by_all first) (stolen_by_all rows ++ is.gone) (stolen_by_all next ++ (is.gone ++ last.gone)) is.stolen
        (IsPermutation-trans (stolen_by_all rows ++ is.gone) ((stolen_by_all next ++ last.gone) ++ is.gone) (stolen_by_all next ++ (is.gone ++ last.gone)) step
        swapped);
  }

  -- the owner is that of the deck behind this door, and made all passes
  module _ (passes : ℕ) (of : AreOwners all_doors passes all_owners) where
    there : (o : Owner) → slice_index_or all_owners (length owners) o ≡ owner
    there o =
        ap (λ (l : List Owner). slice_index_or l (length owners) o) is.owners_are
        ∙ get_or_append_left (owners ++ owner ∷ []) is.done o (length owners) (let more = length_push owners owner in omega (arith, more))
        ∙ get_or_push owners owner o (length owners) refl

    pub inside : length owners < length all_owners
    inside =
        let same = ap (λ (l : List Owner). length l) is.owners_are ∙ length-append (owners ++ owner ∷ []) is.done in
        let more = length_push owners owner in
        omega (arith, same, more)

    pub owner-of : (d : Door) → deck_of owner ≡ deck_behind (slice_index_or all_doors (length owners) d)
    owner-of d = ap (λ (o : Owner). deck_of o) (sym (there owner)) ∙ of.deck (length owners) owner d inside

    pub owner-passes : (owner_view owner).passes ≡ passes
    owner-passes = ap (λ (o : Owner). (owner_view o).passes) (sym (there owner)) ∙ of.passes (length owners) owner inside

    pub door-of : deck_behind door ≡ deck_of owner
    door-of =
        let at : slice_index_or all_doors (length owners) door ≡ door =
        ap (λ (l : List Door). slice_index_or l (length owners) door) is.doors_are
        ∙ get_or_append_left (doors ++ door ∷ []) is.past door (length owners)
        (let more = length_push doors door in let same = both-less in omega (arith, more, same))
        ∙ get_or_push doors door door (length owners) (sym both-less) in
        ap (λ (d : Door). deck_behind d) (sym at) ∙ sym (owner-of door)

-- nothing is left to be accounted for
rows-none : (doors : List Door) (rows : List (List DoorPass)) → AreRows doors (λ worker. 0) rows → stolen_by_all rows ≡ []
rows-none doors rows dealt = by 0 rows (λ worker row inside. (dealt worker row inside).many ∙ others-above worker 0 (omega arith))
  where
    by : (from : ℕ) (l : List (List DoorPass)) → ((worker : ℕ) (row : List DoorPass) → worker < length l → length (slice_index_or l worker row) ≡ 0) →
        stolen_by_all l ≡ []
    by from [] none = refl
    by from (row ∷ l) none =
        ap (λ (t : List TaskParts). t ++ stolen_by_all l) (nothing row (none 0 row (omega arith)))
        ∙ by from l (λ worker other inside. none (suc worker) other (omega (arith, inside)))
      where
        nothing : (r : List DoorPass) → length r ≡ 0 → all_stolen r ≡ []
        nothing [] many = refl
        nothing (pass ∷ r) many = absurd (omega (arith, many))

pub accounted-all : (all_doors doors : List Door) (owners all_owners : List Owner) (first rows : List (List DoorPass)) (left : List TaskParts) → owners ≡ [] →
    IsAccounting doors all_doors owners all_owners first rows left → AreLeftOf all_owners first left
accounted-all all_doors doors owners all_owners first rows left none is =
    let no_door : length doors ≡ 0 = sym is.both ∙ ap (λ (l : List Owner). length l) none in
    let no_more = rows-none all_doors rows (λ worker row inside. subst (λ (n : ℕ). IsRow all_doors n worker (slice_index_or rows worker row)) no_door
    (is.dealt worker row inside)) in
    let all : all_owners ≡ is.done = is.owners_are ∙ ap (λ (l : List Owner). l ++ is.done) none in
    let gone : IsPermutation (stolen_by_all first) is.gone =
    subst (λ (l : List TaskParts). IsPermutation (stolen_by_all first) (l ++ is.gone)) no_more is.stolen in
    subst (λ (l : List Owner). IsPermutation (pushed_by_all l) ((popped_by_all l ++ stolen_by_all first) ++ left)) (sym all)
    (IsPermutation-trans (pushed_by_all is.done) ((popped_by_all is.done ++ is.gone) ++ left) ((popped_by_all is.done ++ stolen_by_all first) ++ left) is.account
    (IsPermutation-append_left left (popped_by_all is.done ++ is.gone) (popped_by_all is.done ++ stolen_by_all first)
    (IsPermutation-append_right (popped_by_all is.done) is.gone (stolen_by_all first) (IsPermutation-sym (stolen_by_all first) is.gone gone))))
