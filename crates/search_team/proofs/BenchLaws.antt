-- Workers at their benches: they may begin, and in the end each bench has what its worker gave back.
use Rattle.std.proofs.Common.{◌≡◌, ℕ, ◌+◌, ◌-◌, ◌<◌, ◌≤◌, ◌∙◌, List, [], ◌∷◌, ◌++◌, length, get_or, take, drop, ap, refl, sym, subst, arith}
use Rattle.std.specs.Prelude.{All, IfSome, slice_index_or}
use Rattle.std.proofs.lemmas.Bool.{lt-ltb, le-ltb}
use Rattle.std.proofs.lemmas.List.{get_or-map, get_or-take, get_or_append_left, get_or_push, length-map, length-take-le, length_push, take_all, take_more}
use Rattle.std.proofs.lemmas.List.Elements.{All-head, All-nil, All-push, All-tail}
use Rattle.std.proofs.Math.Seq.{take-append_seam}
use Rattle.search_board.specs.Seats.{BoardView, SeatView, seat_from}
use Rattle.slot_box.specs.Tasks.{TaskParts}
use Rattle.task_deck.specs.declared.ends.Door.{Door}
use Rattle.task_deck.specs.declared.ends.DoorPass.{DoorPass}
use Rattle.task_deck.specs.declared.ends.Owner.{Owner}
use Rattle.task_deck.specs.Decks.{IsPassOfDeck, deck_behind, deck_of, pass_view}
use Rattle.team_decks.specs.Dealing.{AreDealt, IsUntouched}
use Rattle.team_decks.specs.Rows.{IsRow, other_at, others_of}
use Rattle.branch_worker.specs.declared.site.Me.{Me}
use Rattle.branch_worker.specs.declared.site.Site.{Site}
use Rattle.branch_worker.specs.Work.{IsDone}
use Rattle.branch_worker.specs.Sites.{ArePassesOfOthers, IsFreshSeat}
use Rattle.search_team.specs.declared.benches.Bench.{Bench}
use Rattle.search_team.specs.inside.Benches.{AreSeatedBy, HasReturned, HaveReturned, IsSeated, MayBegin, bench_of, benches_of}
use Rattle.search_team.specs.inside.Apart.{AreOwed}

-- ---- how many there are

pub many-benches : (mes : List Me) → length (benches_of mes) ≡ length mes
many-benches [] = refl
many-benches (me ∷ mes) = (let rest = many-benches mes in let more = length_push (benches_of mes) (bench_of me) in omega (arith, rest, more))

pub many-mes : (seat : SeatView) (owners : List Owner) (rows : List (List DoorPass)) (root : TaskParts) (mes : List Me) → AreSeatedBy seat owners rows root mes →
    length mes ≡ length owners
many-mes seat owners rows root mes is = sym (length-map mes (λ (me : Me). me.owner)) ∙ ap (length {A = Owner}) is.owners_are

-- ---- they may begin

-- the passes of a row are those of all doors but one
passes-of-others : (doors : List Door) (number : ℕ) (row : List DoorPass) → number < length doors → IsRow doors (length doors) number row →
    ArePassesOfOthers number doors row
passes-of-others doors number row inside is = record {
  each = omega (arith, is.many, others, inside);
  before = λ i door pass within less.
      subst (λ (k : ℕ). IsPassOfDeck (deck_behind (slice_index_or doors k door)) (slice_index_or row i pass)) (before i less) (is.deck i door pass within);
  after = λ i door pass within most.
      subst (λ (k : ℕ). IsPassOfDeck (deck_behind (slice_index_or doors k door)) (slice_index_or row i pass)) (after i most) (is.deck i door pass within);
}
  where
    others : others_of number (length doors) ≡ length doors - 1
    others = rw (lt-ltb number (length doors) inside) refl

    before : (i : ℕ) → i < number → other_at number i ≡ i
    before i less = rw (lt-ltb i number less) refl

    after : (i : ℕ) → number ≤ i → other_at number i ≡ i + 1
    after i most = rw (le-ltb i number most) refl

module _ (site : Site) (workers : ℕ) (seat : SeatView) (owners : List Owner) (rows : List (List DoorPass)) (root : TaskParts) (mes : List Me)
    (board : seat.board ≡ site.board.now) (dealt : AreDealt workers site.doors.now owners rows) (is : AreSeatedBy seat owners rows root mes) where
  all-begin : All (MayBegin site) mes
  all-begin k me inside =
      let many = many-mes seat owners rows root mes is in
      let here : k < length owners = omega (arith, inside, many) in
      let doors = dealt.each_owner.many in
      let row_here : k < length rows = omega (arith, here, doors, dealt.each_door, dealt.each_row) in
      let at = get_or mes k me in
      let number : at.number ≡ k = is.numbers k me inside in
      let its_seat : at.seat ≡ seat_from seat = is.seats k me inside in
      let owner : get_or owners k at.owner ≡ at.owner = sym (ap (λ (l : List Owner). get_or l k at.owner) is.owners_are) ∙ get_or-map (λ (m : Me). m.owner) mes k me at.owner inside in
      let row : get_or rows k at.passes ≡ at.passes = sym (ap (λ (l : List (List DoorPass)). get_or l k at.passes) is.rows_are) ∙ get_or-map (λ (m : Me). m.passes) mes k me at.passes inside in
      let untouched : IsUntouched at.owner = subst IsUntouched owner (dealt.untouched k at.owner here) in
      let is_row : IsRow site.doors.now (length site.doors.now) k at.passes =
      subst (λ (n : ℕ). IsRow site.doors.now n k at.passes) (sym dealt.each_door) (subst (IsRow site.doors.now workers k) row (dealt.dealt k at.passes row_here)) in
      let within : k < length site.doors.now = omega (arith, here, doors) in
      record {
        seat = subst (IsFreshSeat site.board.now) (sym its_seat) (record { of_board = board; no_tickets = refl; no_offer = refl; no_look = refl });
        doors = record {
          door = omega (arith, number, within);
          deck = λ door. subst (λ (o : Owner). deck_of o ≡ deck_behind (slice_index_or site.doors.now at.number door)) owner
              (subst (λ (n : ℕ). deck_of (get_or owners k at.owner) ≡ deck_behind (slice_index_or site.doors.now n door)) (sym number) (dealt.each_owner.deck k at.owner door here));
          none_pushed = untouched.pushed;
          none_popped = untouched.popped;
          passes = subst (λ (n : ℕ). ArePassesOfOthers n site.doors.now at.passes) (sym number) (passes-of-others site.doors.now k at.passes within is_row);
          none_stolen = subst (All (λ (pass : DoorPass). (pass_view pass).stolen ≡ [])) row (dealt.none_stolen k at.passes row_here);
        };
      }

  seated : (some : List Me) → All (MayBegin site) some → All (IsSeated site) (benches_of some)
  seated [] all = All-nil (IsSeated site)
  seated (me ∷ some) all =
      All-push (IsSeated site) (benches_of some) (bench_of me) (seated some (All-tail (MayBegin site) me some all))
      (record { may = All-head (MayBegin site) me some all; nothing = refl })

  pub all-seated : (benches : List Bench) → benches ≡ benches_of mes → All (IsSeated site) benches
  all-seated benches are = subst (All (IsSeated site)) (sym are) (seated mes all-begin)

-- ---- what they gave back

-- a slice as it is given back
pub lent-back : {X : Type 0} (old new : List X) → length new ≡ length old → take (length old) (new ++ drop (length new) old) ≡ new
lent-back old new many =
    ap (λ (n : ℕ). take n (new ++ drop (length new) old)) (sym many) ∙ take-append_seam new (drop (length new) old)

-- at each place
abbrev pub ReturnedEach : Site → List Bench → List Bench → Type 0
ReturnedEach site old new = (i : ℕ) (bench : Bench) → i < length old → HasReturned site (slice_index_or old i bench) (slice_index_or new i bench)

pub have-returned : (site : Site) (mes : List Me) (new : List Bench) → length new ≡ length (benches_of mes) → ReturnedEach site (benches_of mes) new →
    HaveReturned site.plant.now site.n mes new
have-returned site [] [] many each = refl
have-returned site [] (bench ∷ new) many each = absurd (omega (arith, many))
have-returned site (me ∷ mes) new many each =
    (others, last, is, owed, have-returned site mes others few (λ i bench inside. kept i bench inside))
  where
    old : List Bench
    old = benches_of mes

    k : ℕ
    k = length old

    all : length new ≡ k + 1
    all = many ∙ length_push old (bench_of me)

    others : List Bench
    others = take k new

    last : Bench
    last = get_or new k (bench_of me)

    few : length others ≡ k
    few = length-take-le k new (omega (arith, all))

    is : new ≡ others ++ last ∷ []
    is = sym (take_all (k + 1) new (omega (arith, all))) ∙ take_more new k (bench_of me) (omega (arith, all))

    owed : IfSome last.done (IsDone site.plant.now site.n me)
    owed = (each k (bench_of me) (omega (arith, many, all))).owed me (ap (λ (b : Bench). b.me) (get_or_push old (bench_of me) (bench_of me) k refl))

    kept : ReturnedEach site old others
    kept i bench inside =
        subst (λ (b : Bench). HasReturned site b (slice_index_or others i bench)) (get_or_append_left old (bench_of me ∷ []) bench i inside)
        (subst (HasReturned site (slice_index_or (old ++ bench_of me ∷ []) i bench)) (sym (get_or-take k new i bench inside)) (each i bench (omega (arith, inside, many, all))))

-- all of it, and all is of the one board
module _ (site : Site) (seat : SeatView) (owners : List Owner) (rows : List (List DoorPass)) (root : TaskParts) (mes : List Me) (old new : List Bench)
    (is : AreSeatedBy seat owners rows root mes) (benches : old ≡ benches_of mes) (many : length new ≡ length old) (each : ReturnedEach site old new) where
  pub all-returned : HaveReturned site.plant.now site.n mes new
  all-returned = have-returned site mes new (many ∙ ap (length {A = Bench}) benches) (subst (λ (l : List Bench). ReturnedEach site l new) benches each)

  pub all-owed : (board : BoardView) → seat.board ≡ board → AreOwed board new
  all-owed board of = (site.plant.now, site.n, mes, all-returned, λ k me inside. ap (λ (s : SeatView). s.board) (is.seats k me inside) ∙ of)

-- they sat down by the same seat
pub seated-same : (seat other : SeatView) (owners : List Owner) (rows : List (List DoorPass)) (root : TaskParts) (mes : List Me) → seat ≡ other →
    AreSeatedBy seat owners rows root mes → AreSeatedBy other owners rows root mes
seated-same seat other owners rows root mes same is = subst (λ (s : SeatView). AreSeatedBy s owners rows root mes) same is
