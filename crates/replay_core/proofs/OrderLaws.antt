-- Rules on the operations before one, asked of what is kept of them.
use Rattle.std.proofs.Common.{IsTrue, ◌↔◌, ◌≡◌, ℕ, suc, ◌+◌, ◌-◌, ◌<◌, ◌≤◌, max, Bool, true, false, not, ◌&&◌, ◌||◌, eqb, leb, ltb, if◌then◌else◌, List, [], ◌∷◌, fold, length, get_or, refl, sym, ap, inl, inr, ◌∙◌, arith, ◌++◌}
use Rattle.std.specs.List.{list_all}
use Rattle.std.proofs.lemmas.List.Folds.{list_all-append}
use Rattle.std.proofs.lemmas.Bool.{cases_Bool, and_parts, and_from, eqb-true, eq-eqb, leb-true, le-leb, ltb-true}
use Rattle.std.proofs.lemmas.Bool.Decides.{nat_tests}
use Rattle.std.proofs.lemmas.List.Sums.{fold_push}
use Rattle.plant_model.specs.declared.parts.Parts.{Parts}
use Rattle.plant_model.specs.Parts.{op_count_of}
use Rattle.replay_core.specs.declared.timed.Timed.{Timed}
use Rattle.replay_core.specs.declared.order.Order.{Order}
use Rattle.replay_core.specs.declared.latest.Relation.{Relation}
use Rattle.replay_core.specs.Counts.{latest_of}
use Rattle.replay_core.specs.inside.Latest.{AreLatest, relates, NoneIsLater}
use Rattle.replay_core.specs.Rules.{last_start, is_known, lasts, starts_in_order}
use Rattle.replay_core.specs.Legal.{CanRun}
use Rattle.replay_core.proofs.StepLaws.{along_accepted}
use Rattle.replay_core.proofs.RuleLaws.{rules_kept, own_rules_kept}

-- the plant has each operation that has run
pub all_known : (parts : Parts) (order : Order) (steps : List Timed) → CanRun parts order steps → list_all (is_known parts) steps ≡ true
all_known parts order steps accepted =
    along_accepted parts order (λ (done : List Timed). list_all (is_known parts) done ≡ true) refl
    (λ before t so_far known none.
    let own = own_rules_kept parts t (length before + 1) (rules_kept parts order before t (length before + 1) none).own in
    list_all-append (is_known parts) before (t ∷ []) ∙ and_from (list_all (is_known parts) before) (is_known parts t && true) known
    (and_from (is_known parts t) true own.known refl))
    steps accepted

-- and each took time
pub all_last : (parts : Parts) (order : Order) (steps : List Timed) → CanRun parts order steps → list_all lasts steps ≡ true
all_last parts order steps can_run =
    along_accepted parts order (λ (done : List Timed). list_all lasts done ≡ true) refl
    (λ before t so_far lasting none.
    let own = own_rules_kept parts t (length before + 1) (rules_kept parts order before t (length before + 1) none).own in
    list_all-append lasts before (t ∷ []) ∙ and_from (list_all lasts before) (lasts t && true) lasting (and_from (lasts t) true own.lasts refl))
    steps can_run

-- ---- the latest of chosen operations is at most a minute, exactly where each is

latest-step : (chosen : Bool) (last this minute : ℕ) (rest : Bool) → (leb (if chosen then max last this else last) minute && rest)
    ≡ (leb last minute && ((not chosen || leb this minute) && rest))
latest-step true last this minute rest = grind (arith, nat_tests)
latest-step false last this minute rest = refl

latest-from : (chosen : Timed → Bool) (f : Timed → ℕ) (steps : List Timed) (last minute : ℕ) →
    leb (fold (λ last (s : Timed). if chosen s then max last (f s) else last) last steps) minute
    ≡ (leb last minute && list_all (λ (s : Timed). not (chosen s) || leb (f s) minute) steps)
latest-from chosen f [] last minute = elim (leb last minute) as (λ (b : Bool). b ≡ (b && true)) [ true ↦ refl | false ↦ refl ]
latest-from chosen f (s ∷ steps) last minute =
    latest-from chosen f steps (if chosen s then max last (f s) else last) minute
    ∙ latest-step (chosen s) last (f s) minute (list_all (λ (r : Timed). not (chosen r) || leb (f r) minute) steps)

pub latest-below : (chosen : Timed → Bool) (f : Timed → ℕ) (steps : List Timed) (minute : ℕ) → leb (latest_of chosen f steps) minute
    ≡ list_all (λ (s : Timed). not (chosen s) || leb (f s) minute) steps
latest-below chosen f steps minute =
    latest-from chosen f steps 0 minute ∙ ap (λ (b : Bool). b && list_all (λ (s : Timed). not (chosen s) || leb (f s) minute) steps)
    (le-leb 0 minute (omega arith))

-- ---- operation by operation in place of run by run

-- a test that is not ruled out by a true one holds beside any
go : (x y z : Bool) → (not x || z) ≡ true → x ≡ true → (not y || z) ≡ true
go true y true h is = elim y as (λ (b : Bool). (not b || true) ≡ true) [ true ↦ refl | false ↦ refl ]
go true y false h is = cc
go false y z h is = cc

one-same : (related : ℕ → Bool) (f : Timed → ℕ) (minute v : ℕ) (s : Timed) → (not (related s.op) || leb (f s) minute) ≡ true → related v ≡ true →
    (not (eqb s.op v) || leb (f s) minute) ≡ true
one-same related f minute v s early is =
    elim (cases_Bool (eqb s.op v)) [
      | inl same ↦ (let here : related s.op ≡ true = ap related (eqb-true s.op v same) ∙ is in go (related s.op) (eqb s.op v) (leb (f s) minute) early here)
      | inr other ↦ ap (λ (b : Bool). not b || leb (f s) minute) other
    ]

one-each : (related : ℕ → Bool) (f : Timed → ℕ) (minute : ℕ) (s : Timed) → (related s.op ≡ true → (not (eqb s.op s.op) || leb (f s) minute) ≡ true) →
    (not (related s.op) || leb (f s) minute) ≡ true
one-each related f minute s early =
    elim (cases_Bool (related s.op)) [
      | inl is ↦ go (eqb s.op s.op) (related s.op) (leb (f s) minute) (early is) (eq-eqb s.op s.op refl)
      | inr other ↦ ap (λ (b : Bool). not b || leb (f s) minute) other
    ]

all-same : (related : ℕ → Bool) (f : Timed → ℕ) (minute v : ℕ) (steps : List Timed) → list_all (λ (s : Timed). not (related s.op) || leb (f s) minute) steps
    ≡ true → related v ≡ true →
    list_all (λ (s : Timed). not (eqb s.op v) || leb (f s) minute) steps ≡ true
all-same related f minute v [] early is = refl
all-same related f minute v (s ∷ steps) early is =
    let parted = and_parts (not (related s.op) || leb (f s) minute) (list_all (λ (r : Timed). not (related r.op) || leb (f r) minute) steps) early in
    and_from (not (eqb s.op v) || leb (f s) minute) (list_all (λ (r : Timed). not (eqb r.op v) || leb (f r) minute) steps)
    (one-same related f minute v s parted.0 is)
    (all-same related f minute v steps parted.1 is)

all-each : (related : ℕ → Bool) (f : Timed → ℕ) (count minute : ℕ) (steps : List Timed) → list_all (λ (s : Timed). ltb s.op count) steps ≡ true →
    ((v : ℕ) → v < count → related v ≡ true → list_all (λ (s : Timed). not (eqb s.op v) || leb (f s) minute) steps ≡ true) →
    list_all (λ (s : Timed). not (related s.op) || leb (f s) minute) steps ≡ true
all-each related f count minute [] known each = refl
all-each related f count minute (s ∷ steps) known each =
    let parted = and_parts (ltb s.op count) (list_all (λ (r : Timed). ltb r.op count) steps) known in
    and_from (not (related s.op) || leb (f s) minute) (list_all (λ (r : Timed). not (related r.op) || leb (f r) minute) steps)
    (one-each related f minute s
    (λ is. (and_parts (not (eqb s.op s.op) || leb (f s) minute) (list_all (λ (r : Timed). not (eqb r.op s.op) || leb (f r) minute) steps)
    (each s.op (ltb-true s.op count parted.0) is)).0))
    (all-each related f count minute steps parted.1
    (λ v within is. (and_parts (not (eqb s.op v) || leb (f s) minute) (list_all (λ (r : Timed). not (eqb r.op v) || leb (f r) minute) steps)
    (each v within is)).1))

-- ---- two tests that hold together are one

pub same_test : (a b : Bool) → (a ≡ true → b ≡ true) → (b ≡ true → a ≡ true) → a ≡ b
same_test true b there back = sym (there refl)
same_test false true there back = back refl
same_test false false there back = refl

-- whether none that is related is later, asked of the table
pub none_later_is : (parts : Parts) (order : Order) (steps : List Timed) (f : Timed → ℕ) (relation : Relation) (w limit : ℕ) (table : List ℕ) (none : Bool) →
    CanRun parts order steps → AreLatest f parts steps table →
    (IsTrue none ↔ NoneIsLater parts relation w table limit) → none ≡ list_all (λ (s : Timed). not (relates parts relation s.op w) || leb (f s) limit) steps
unfolding is_known
none_later_is parts order steps f relation w limit table none can_run are both =
    let related : ℕ → Bool = λ v. relates parts relation v w in
    same_test none (list_all (λ (s : Timed). not (related s.op) || leb (f s) limit) steps)
    (λ yes. all-each related f (op_count_of parts) limit steps (all_known parts order steps can_run)
    (λ v within is.
    let early = both.0 yes v within is in
    sym (latest-below (λ (s : Timed). eqb s.op v) f steps limit) ∙ le-leb (latest_of (λ (s : Timed). eqb s.op v) f steps) limit (let same = are.each v within in
    omega arith)))
    (λ early. both.1 (λ v within is.
    let below = leb-true (latest_of (λ (s : Timed). eqb s.op v) f steps) limit (latest-below (λ (s : Timed). eqb s.op v) f steps limit
    ∙ all-same related f limit v steps early is) in
    let same = are.each v within in omega arith))

-- of operations that last, none ends at minute 0
late_vessels-one : (x : Bool) (s : Timed) → lasts s ≡ true → (not x || leb s.end 0) ≡ not x
unfolding lasts
late_vessels-one true s lasting = grind (arith, nat_tests)
late_vessels-one false s lasting = refl

pub none_ended : (later : ℕ → Bool) (steps : List Timed) → list_all lasts steps ≡ true →
    list_all (λ (s : Timed). not (later s.op) || leb s.end 0) steps ≡ list_all (λ (s : Timed). not (later s.op)) steps
none_ended later [] lasting = refl
none_ended later (s ∷ steps) lasting =
    let parted = and_parts (lasts s) (list_all lasts steps) lasting in
    let here = late_vessels-one (later s.op) s parted.0 in
    let rest = none_ended later steps parted.1 in
    cc

-- ---- the start of the last one

start-fold : (steps : List Timed) (start : ℕ) (s : Timed) → 0 < length steps → s ≡ get_or steps (length steps - 1) s →
    fold (λ _ (r : Timed). r.start) start steps ≡ s.start
start-fold [] start s some is = absurd (omega arith)
start-fold (r ∷ []) start s some is = ap (λ (t : Timed). t.start) (sym is)
start-fold (r ∷ q ∷ steps) start s some is =
    let at : length (r ∷ q ∷ steps) - 1 ≡ suc (length (q ∷ steps) - 1) = omega arith in
    start-fold (q ∷ steps) r.start s (omega arith) (is ∙ ap (λ (i : ℕ). get_or (r ∷ q ∷ steps) i s) at)

pub last_start-at : (steps : List Timed) (s : Timed) → 0 < length steps → s ≡ get_or steps (length steps - 1) s → last_start steps ≡ s.start
unfolding last_start
last_start-at steps s some is = start-fold steps 0 s some is

pub last_start-none : (steps : List Timed) → length steps ≤ 0 → last_start steps ≡ 0
unfolding last_start
last_start-none [] none = refl
last_start-none (s ∷ steps) none = absurd (omega arith)

pub last_start_push : (before : List Timed) (t : Timed) → last_start (before ++ t ∷ []) ≡ t.start
unfolding last_start
last_start_push before t = fold_push (λ _ (s : Timed). s.start) 0 before t

pub starts_in_order-true : (before : List Timed) (t : Timed) → starts_in_order before t ≡ true → last_start before ≤ t.start
unfolding starts_in_order
starts_in_order-true before t holds = leb-true (last_start before) t.start holds

pub starts_in_order-from : (before : List Timed) (t : Timed) → last_start before ≤ t.start → starts_in_order before t ≡ true
unfolding starts_in_order
starts_in_order-from before t below = le-leb (last_start before) t.start below
