-- Workers that sit down, one after another.
use Rattle.std.proofs.Common.{◌≡◌, inl, inr, ℕ, zero, suc, ◌+◌, ◌-◌, ◌<◌, ◌∙◌, true, false, Bool, Option, Some, None, List, [], ◌∷◌, ◌++◌, length, map, ap, refl, sym, subst, arith}
use Rattle.std.specs.Prelude.{◌⊎◌, ◌==◌, if◌then◌else◌, slice_index_or}
use Rattle.std.proofs.lemmas.Bool.{cases_eq}
use Rattle.std.proofs.lemmas.List.{append_assoc, length-append, length-map, length_push}
use Rattle.std.proofs.lemmas.List.Elements.{All-cons}
use Rattle.search_board.specs.Seats.{SeatView, seat_from}
use Rattle.slot_box.specs.Tasks.{TaskParts}
use Rattle.task_deck.specs.declared.ends.DoorPass.{DoorPass}
use Rattle.task_deck.specs.declared.ends.Owner.{Owner}
use Rattle.branch_worker.specs.declared.site.Me.{Me}
use Rattle.branch_worker.specs.Work.{first_tasks}
use Rattle.search_team.specs.declared.benches.Bench.{Bench}
use Rattle.search_team.specs.inside.Benches.{IsSeating, all_first, bench_of, first_for, root_after}

-- the root's task is still with one of them
firsts-by : (is_first : Bool) (root : Option TaskParts) (others : List TaskParts) (task : TaskParts) → others ++ first_tasks root ≡ task ∷ [] →
    (first_tasks (if is_first then root else None) ++ others) ++ first_tasks (if is_first then None else root) ≡ task ∷ []
firsts-by true None others task is = is
firsts-by true (Some root) [] task is = is
firsts-by true (Some root) (other ∷ others) task is = absurd (omega (arith, ap (length {A = TaskParts}) is, length_push others root))
firsts-by false root others task is = is

held-by : (number : ℕ) (root : Option TaskParts) → (0 < number) ⊎ (root_after number root ≡ None)
held-by number root = elim (cases_eq number 0) [
  | inl none ↦ inr (subst (λ (k : ℕ). root_after k root ≡ None) (sym none) refl)
  | inr some ↦ inl (omega (arith, some))
]

-- the numbers of the workers rise from that of the first one on
numbers-more : (number : ℕ) (first : Me) (mes : List Me) → first.number ≡ number →
    ((i : ℕ) (me : Me) → i < length mes → (slice_index_or mes i me).number ≡ number + 1 + i) →
    (i : ℕ) (me : Me) → i < length (first ∷ mes) → (slice_index_or (first ∷ mes) i me).number ≡ number + i
numbers-more number first mes is others zero me inside = omega (arith, is)
numbers-more number first mes is others (suc i) me inside = (let each = others i me (omega (arith, inside)) in omega (arith, each))

-- there is a seat for each owner that is left
pub seated-may : (first : SeatView) (all_owners owners : List Owner) (all_rows rows : List (List DoorPass)) (task : TaskParts) (root : Option TaskParts) (seat : SeatView)
    (benches : List Bench) → IsSeating first all_owners owners all_rows rows task root seat benches → length all_owners + seat.may ≡ length owners + first.may
seated-may first all_owners owners all_rows rows task root seat benches is =
    let all = ap (length {A = Owner}) is.owners_are in
    let parts = length-append owners (map (λ (m : Me). m.owner) is.mes) in
    let mapped = length-map is.mes (λ (m : Me). m.owner) in
    omega (arith, is.may, all, parts, mapped)

module _ (first : SeatView) (all_owners owners left_owners : List Owner) (all_rows rows left_rows : List (List DoorPass)) (task : TaskParts)
    (root left_root : Option TaskParts) (seat left_seat : SeatView) (benches more_benches : List Bench) (owner : Owner) (passes : List DoorPass) (me : Me) where
  pub IsSeating-more : IsSeating first all_owners owners all_rows rows task root seat benches → owners ≡ left_owners ++ owner ∷ [] → rows ≡ left_rows ++ passes ∷ [] →
      me ≡ record { number = length left_owners; seat = seat_from seat; owner = owner; passes = passes; first = first_for (length left_owners) root } → 0 < seat.may →
      left_seat ≡ record seat { may = seat.may - 1 } → left_root ≡ root_after (length left_owners) root → more_benches ≡ benches ++ bench_of me ∷ [] →
      IsSeating first all_owners left_owners all_rows left_rows task left_root left_seat more_benches
  IsSeating-more is owners_is rows_is me_is may seat_is root_is benches_is = record {
    mes = me ∷ is.mes;
    benches_are = benches_is ∙ ap (λ (l : List Bench). l ++ bench_of me ∷ []) is.benches_are;
    both = omega (arith, is.both, few_owners, few_rows);
    owners_are = is.owners_are ∙ ap (λ (l : List Owner). l ++ map (λ (m : Me). m.owner) is.mes) owners_is
        ∙ append_assoc left_owners (owner ∷ []) (map (λ (m : Me). m.owner) is.mes)
        ∙ ap (λ (o : Owner). left_owners ++ o ∷ map (λ (m : Me). m.owner) is.mes) (sym (ap (λ (m : Me). m.owner) me_is));
    rows_are = is.rows_are ∙ ap (λ (l : List (List DoorPass)). l ++ map (λ (m : Me). m.passes) is.mes) rows_is
        ∙ append_assoc left_rows (passes ∷ []) (map (λ (m : Me). m.passes) is.mes)
        ∙ ap (λ (o : List DoorPass). left_rows ++ o ∷ map (λ (m : Me). m.passes) is.mes) (sym (ap (λ (m : Me). m.passes) me_is));
    seats = All-cons (λ (m : Me). m.seat ≡ seat_from first) me is.mes (ap (λ (m : Me). m.seat) me_is ∙ ap seat_from is.seat_is) is.seats;
    numbers = numbers-more (length left_owners) me is.mes (ap (λ (m : Me). m.number) me_is)
        (λ i other inside. (let each = is.numbers i other inside in omega (arith, each, few_owners)));
    seat_is = seat_is ∙ ap (λ (s : SeatView). record s { may = seat.may - 1 }) is.seat_is ∙ ap (λ (m : ℕ). record first { may = m }) (sym left);
    may = omega (arith, is.may, may, left);
    firsts = subst (λ (r : Option TaskParts). (first_tasks me.first ++ all_first is.mes) ++ first_tasks r ≡ task ∷ []) (sym root_is)
        (subst (λ (r : Option TaskParts). (first_tasks r ++ all_first is.mes) ++ first_tasks (root_after (length left_owners) root) ≡ task ∷ [])
        (sym (ap (λ (m : Me). m.first) me_is)) (firsts-by (◌==◌ (length left_owners) 0) root (all_first is.mes) task is.firsts));
    held = subst (λ (r : Option TaskParts). (0 < length left_owners) ⊎ (r ≡ None)) (sym root_is) (held-by (length left_owners) root);
  }
    where
      few_owners : length owners ≡ length left_owners + 1
      few_owners = ap (length {A = Owner}) owners_is ∙ length_push left_owners owner

      few_rows : length rows ≡ length left_rows + 1
      few_rows = ap (length {A = List DoorPass}) rows_is ∙ length_push left_rows passes

      left : left_seat.may ≡ seat.may - 1
      left = ap (λ (s : SeatView). s.may) seat_is
