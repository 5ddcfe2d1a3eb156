-- Laws of tallies and of latest minutes: one more operation.
use Rattle.std.proofs.Common.{◌≡◌, ◌≢◌, ℕ, ◌+◌, ◌-◌, ◌*◌, ◌<◌, ◌≤◌, max, Bool, true, false, eqb, if◌then◌else◌, List, [], ◌∷◌, ◌++◌, length, get_or, set, replicate, refl, sym, ap, subst, inl, inr, ◌∙◌, arith}
use Rattle.std.proofs.lemmas.List.{length-set, length_push, length-replicate, get_or-replicate, get_or-set_same, get_or-set_other}
use Rattle.std.proofs.lemmas.List.Sums.{sum_by_push, fold_push}
use Rattle.std.proofs.lemmas.Bool.{cases_eq, eq-eqb, ne_eqb}
use Rattle.limits.specs.declared.TheConstants.{MOST_HORIZON, MOST_STEPS, MOST_VOLUME}
use Rattle.plant_model.specs.declared.parts.Parts.{Parts}
use Rattle.plant_model.specs.Parts.{op_count_of, place_count_of, op_of}
use Rattle.plant_model.specs.Sound.{SoundPlant}
use Rattle.replay_core.specs.declared.timed.Timed.{Timed}
use Rattle.replay_core.specs.declared.order.Order.{Order}
use Rattle.replay_core.specs.declared.tally.Tally.{Tally}
use Rattle.replay_core.specs.Counts.{charges_unit, charges_from, unloads_from, charges_of, minutes_of, charged_of, latest_of, last_end_of}
use Rattle.replay_core.specs.inside.Tally.{tally_of, tally_after, HasRoom, AreTallies}
use Rattle.replay_core.specs.inside.Latest.{AreLatest}
use Rattle.replay_core.specs.Legal.{CanRun}
use Rattle.replay_core.proofs.StepLaws.{along_accepted}
use Rattle.replay_core.proofs.RuleLaws.{runs_soundly}

-- ---- tallies

pub charges_of_push : (parts : Parts) (steps : List Timed) (t : Timed) (p : ℕ) → charges_of parts (steps ++ t ∷ []) p
    ≡ charges_of parts steps p + (if charges_unit parts p t then 1 else 0)
unfolding charges_of
charges_of_push parts steps t p = sum_by_push (λ (s : Timed). if charges_unit parts p s then 1 else 0) steps t

pub minutes_of_push : (parts : Parts) (steps : List Timed) (t : Timed) (p : ℕ) → minutes_of parts (steps ++ t ∷ []) p
    ≡ minutes_of parts steps p + (if charges_unit parts p t then t.end - t.start else 0)
unfolding minutes_of
minutes_of_push parts steps t p = sum_by_push (λ (s : Timed). if charges_unit parts p s then s.end - s.start else 0) steps t

pub charged_of_push : (parts : Parts) (steps : List Timed) (t : Timed) (p : ℕ) → charged_of parts (steps ++ t ∷ []) p
    ≡ charged_of parts steps p + (if charges_from parts p t then t.volume else 0)
unfolding charged_of
charged_of_push parts steps t p = sum_by_push (λ (s : Timed). if charges_from parts p s then s.volume else 0) steps t

pub last_end_of_push : (parts : Parts) (steps : List Timed) (t : Timed) (p : ℕ) → last_end_of parts (steps ++ t ∷ []) p
    ≡ (if unloads_from parts p t then max (last_end_of parts steps p) t.end else last_end_of parts steps p)
unfolding last_end_of
last_end_of_push parts steps t p = fold_push (λ last (s : Timed). if unloads_from parts p s then max last s.end else last) 0 steps t

tally_with : ℕ → ℕ → ℕ → ℕ → Tally
tally_with charges minutes charged last_end = record { charges = charges; minutes = minutes; charged = charged; last_end = last_end }

pub tally_of_push : (parts : Parts) (steps : List Timed) (t : Timed) (p : ℕ) → tally_of parts (steps ++ t ∷ []) p
    ≡ tally_after (op_of parts t.op) t p (tally_of parts steps p)
unfolding tally_of tally_after tally_with
tally_of_push parts steps t p =
    let charges = charges_of parts steps p + (if charges_unit parts p t then 1 else 0) in
    let minutes = minutes_of parts steps p + (if charges_unit parts p t then t.end - t.start else 0) in
    let charged = charged_of parts steps p + (if charges_from parts p t then t.volume else 0) in
    let last = last_end_of parts (steps ++ t ∷ []) p in
    ap (λ (n : ℕ). tally_with n (minutes_of parts (steps ++ t ∷ []) p) (charged_of parts (steps ++ t ∷ []) p) last) (charges_of_push parts steps t p)
    ∙ ap (λ (n : ℕ). tally_with charges n (charged_of parts (steps ++ t ∷ []) p) last) (minutes_of_push parts steps t p)
    ∙ ap (λ (n : ℕ). tally_with charges minutes n last) (charged_of_push parts steps t p)
    ∙ ap (λ (n : ℕ). tally_with charges minutes charged n) (last_end_of_push parts steps t p)

pub AreTallies_push : (parts : Parts) (steps : List Timed) (t : Timed) (old new : List Tally) → AreTallies parts steps old → length new ≡ length old →
    ((p : ℕ) (d : Tally) → p < length old → get_or new p d ≡ tally_after (op_of parts t.op) t p (get_or old p d)) → AreTallies parts (steps ++ t ∷ []) new
AreTallies_push parts steps t old new are count counted = record {
  count = count ∙ are.count;
  each = λ p d within.
      let there : p < length old = (let places = are.count in omega arith) in
      counted p d there ∙ ap (tally_after (op_of parts t.op) t p) (are.each p d within) ∙ sym (tally_of_push parts steps t p);
}

pub AreTallies-first : (parts : Parts) → AreTallies parts [] (replicate (place_count_of parts) (record { charges = 0; minutes = 0; charged = 0; last_end = 0 }))
unfolding tally_of charges_of minutes_of charged_of last_end_of
AreTallies-first parts = record {
  count = length-replicate (place_count_of parts) (record { charges = 0; minutes = 0; charged = 0; last_end = 0 });
  each = λ p d within. get_or-replicate (place_count_of parts) p (record { charges = 0; minutes = 0; charged = 0; last_end = 0 }) d within;
}

-- one charge adds at most one charge, the minutes of a horizon and the greatest volume
record CountsWithin (n : ℕ) (charges minutes charged : ℕ) : Type 0 where
  few : charges ≤ n
  short : minutes ≤ MOST_HORIZON * n
  little : charged ≤ MOST_VOLUME * n

nothing_counted : (parts : Parts) (p : ℕ) → CountsWithin 0 (charges_of parts [] p) (minutes_of parts [] p) (charged_of parts [] p)
unfolding charges_of minutes_of charged_of
nothing_counted parts p = record { few = omega arith; short = omega arith; little = omega arith }

cond-most : (b : Bool) (n most : ℕ) → n ≤ most → (if b then n else 0) ≤ most
cond-most true n most few = few
cond-most false n most few = omega arith

counts_within : (parts : Parts) (order : Order) (p : ℕ) (steps : List Timed) → SoundPlant parts → CanRun parts order steps →
    CountsWithin (length steps) (charges_of parts steps p) (minutes_of parts steps p) (charged_of parts steps p)
counts_within parts order p steps sound accepted =
    along_accepted parts order (λ (done : List Timed). CountsWithin (length done) (charges_of parts done p) (minutes_of parts done p) (charged_of parts done p))
    (nothing_counted parts p)
    (λ before t so_far within none.
    let runs = runs_soundly parts order before t (length before + 1) sound none in
    let end = runs.in_horizon in
    let most = runs.most in
    let one = length_push before t in
    let charges = charges_of_push parts before t p in
    let minutes = minutes_of_push parts before t p in
    let charged = charged_of_push parts before t p in
    let had = within.few in
    let lasted = within.short in
    let gave = within.little in
    let once = cond-most (charges_unit parts p t) 1 1 (omega arith) in
    let short = cond-most (charges_unit parts p t) (t.end - t.start) MOST_HORIZON (omega arith) in
    let little = cond-most (charges_from parts p t) t.volume MOST_VOLUME most in
    record { few = omega arith; short = omega arith; little = omega arith })
    steps accepted

pub tallies_have_room : (parts : Parts) (order : Order) (steps : List Timed) (tallies : List Tally) → SoundPlant parts → CanRun parts order steps → length steps
    ≤ MOST_STEPS → AreTallies parts steps tallies →
    (p : ℕ) (d : Tally) → p < length tallies → HasRoom (get_or tallies p d)
unfolding tally_of
tallies_have_room parts order steps tallies sound accepted few are p d within =
    let counts = counts_within parts order p steps sound accepted in
    let charges = counts.few in
    let minutes = counts.short in
    let charged = counts.little in
    let places = are.count in
    let room : HasRoom (tally_of parts steps p) = record { charges = omega arith; minutes = omega arith; charged = omega arith } in
    subst HasRoom (sym (are.each p d (omega arith))) room

-- ---- latest minutes

latest-same : (f : Timed → ℕ) (steps : List Timed) (t : Timed) (v : ℕ) → t.op ≡ v → latest_of (λ (s : Timed). eqb s.op v) f (steps ++ t ∷ [])
    ≡ max (latest_of (λ (s : Timed). eqb s.op v) f steps) (f t)
latest-same f steps t v same =
    let before = latest_of (λ (s : Timed). eqb s.op v) f steps in
    fold_push (λ last (s : Timed). if eqb s.op v then max last (f s) else last) 0 steps t
    ∙ ap (λ (b : Bool). if b then max before (f t) else before) (eq-eqb t.op v same)

latest-other : (f : Timed → ℕ) (steps : List Timed) (t : Timed) (v : ℕ) → t.op ≢ v → latest_of (λ (s : Timed). eqb s.op v) f (steps ++ t ∷ [])
    ≡ latest_of (λ (s : Timed). eqb s.op v) f steps
latest-other f steps t v other =
    let before = latest_of (λ (s : Timed). eqb s.op v) f steps in
    fold_push (λ last (s : Timed). if eqb s.op v then max last (f s) else last) 0 steps t
    ∙ ap (λ (b : Bool). if b then max before (f t) else before) (ne_eqb t.op v other)

pub AreLatest_push : (f : Timed → ℕ) (parts : Parts) (steps : List Timed) (t : Timed) (table : List ℕ) → AreLatest f parts steps table →
    t.op < op_count_of parts → AreLatest f parts (steps ++ t ∷ []) (set table t.op (max (get_or table t.op 0) (f t)))
AreLatest_push f parts steps t table are known = record {
  count = length-set table t.op (max (get_or table t.op 0) (f t)) ∙ are.count;
  each = λ v within.
      let count = are.count in
      elim (cases_eq v t.op) [
        | inl same ↦
            subst (λ (w : ℕ). get_or (set table t.op (max (get_or table t.op 0) (f t))) w 0 ≡ latest_of (λ (s : Timed). eqb s.op w) f (steps ++ t ∷ []))
            (sym same)
            (get_or-set_same table t.op (max (get_or table t.op 0) (f t)) 0 (omega arith) ∙ ap (λ (n : ℕ). max n (f t)) (are.each t.op known)
            ∙ sym (latest-same f steps t t.op refl))
        | inr other ↦ get_or-set_other table t.op v (max (get_or table t.op 0) (f t)) 0 other ∙ are.each v within
            ∙ sym (latest-other f steps t v (λ same. other (sym same)))
      ];
}

pub AreLatest-first : (f : Timed → ℕ) (parts : Parts) → AreLatest f parts [] (replicate (op_count_of parts) 0)
AreLatest-first f parts = record {
  count = length-replicate (op_count_of parts) 0;
  each = λ v within. get_or-replicate (op_count_of parts) v 0 0 within;
}
