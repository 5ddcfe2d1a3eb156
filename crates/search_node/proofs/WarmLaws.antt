-- The entries with which a task begins, entry by entry.
use Rattle.std.proofs.Common.{◌≡◌, ℕ, ◌+◌, ◌<◌, ◌≤◌, Bool, true, not, cond, List, [], ◌∷◌, ◌++◌, length, take, get_or, ap, ap₂, sym, ◌∙◌, refl, subst, arith}
use Rattle.std.proofs.lemmas.List.{length_push, length-take, take_more}
use Rattle.std.proofs.lemmas.List.Elements.{All-contains, All-push, All-take, Contains-push, filter-append}
use Rattle.std.proofs.lemmas.List.Filters.{length-filter_both}
use Rattle.limits.specs.declared.TheConstants.{MOST_MULTIPLIER, MOST_ROWS}
use Rattle.linear_form.specs.Rows.{RowForm}
use Rattle.named_rows.specs.NamedRows.{IsNamed}
use Rattle.plant_model.specs.declared.parts.Parts.{Parts}
use Rattle.slot_box.specs.declared.term.RowName.{RowName}
use Rattle.slot_box.specs.declared.term.Term.{Term}
use Rattle.slot_box.specs.declared.term.Term.TheVariants.{Row}
use Rattle.slot_box.specs.Tasks.{HasSmallMultiplier, IsWarmStart}
use Rattle.leaf_value.specs.Settings.{Setting, plain_setting}
use Rattle.search_node.specs.declared.warm.WarmEntries.{WarmEntries}
use Rattle.search_node.specs.inside.Candidates.{entries_by}
use Rattle.search_node.specs.inside.Warming.{AreWarmEntries}
use Rattle.search_node.specs.Tables.{IsBlockOf}
use Rattle.search_node.specs.Values.{entries_there, is_there}
use Rattle.search_node.proofs.EntryLaws.{as-many, entries-count, entries-push, named-there}

-- ---- what a task may begin with

start-front : (terms : List Term) (i : ℕ) → IsWarmStart terms → IsWarmStart (take i terms)
start-front terms i start = record {
  few = (let count = length-take i terms in omega (arith, start.few, count));
  multipliers = All-take HasSmallMultiplier i terms start.multipliers;
}

-- ---- the entries that are there

there-more : (setting : Setting) (before : List Term) (term : Term) (is : Bool) → is_there setting term ≡ is →
    entries_there setting (before ++ term ∷ []) ≡ entries_there setting before ++ cond is (term ∷ []) []
there-more setting before term is there =
    filter-append (is_there setting) before (term ∷ [])
    ∙ ap (λ (b : Bool). entries_there setting before ++ cond b (term ∷ []) []) there

-- ---- what is kept of them

-- one entry after those before it
pub warm-next : (setting : Setting) (terms : List Term) (i : ℕ) (d : Term) (old new : WarmEntries) → i < length terms → IsWarmStart terms →
    AreWarmEntries setting (take i terms) old →
    ((before : List Term) → IsWarmStart (before ++ get_or terms i d ∷ []) → AreWarmEntries setting before old →
    AreWarmEntries setting (before ++ get_or terms i d ∷ []) new) →
    AreWarmEntries setting (take (i + 1) terms) new
warm-next setting terms i d old new there start are step =
    let more = take_more terms i d there in
    subst (λ (front : List Term). AreWarmEntries setting front new) (sym more)
    (step (take i terms) (subst IsWarmStart more (start-front terms (i + 1) start)) are)

-- there are no more of them than a task may begin with
pub warm-full : (parts : Parts) (n : ℕ) (before : List Term) (term : Term) (warm : WarmEntries) → IsWarmStart (before ++ term ∷ []) →
    AreWarmEntries (plain_setting parts n) before warm → MOST_ROWS ≤ length warm.block.names → ⊥
warm-full parts n before term warm start are full =
    let setting : Setting = plain_setting parts n in
    let rows = as-many parts n warm.block are.block in
    let count = entries-count warm.block.names warm.guess.y (are.guess.as_many ∙ rows) in
    let there = ap (length {A = Term}) are.same in
    let both = length-filter_both (is_there setting) (λ (t : Term). not (is_there setting t)) (λ _. refl) before in
    let more = length_push before term in
    omega (arith, count, there, both, more, start.few, full)

pub warm-added : (parts : Parts) (n : ℕ) (before : List Term) (term : Term) (name : RowName) (y : ℕ) (row : RowForm) (old new : WarmEntries) →
    term ≡ Row name y → IsWarmStart (before ++ term ∷ []) → AreWarmEntries (plain_setting parts n) before old → IsNamed parts n name row →
    IsBlockOf parts n new.block → new.block.names ≡ old.block.names ++ name ∷ [] → new.block.rows ≡ old.block.rows ++ row ∷ [] →
    new.guess.y ≡ old.guess.y ++ y ∷ [] → new.guess.q ≡ old.guess.q → AreWarmEntries (plain_setting parts n) (before ++ term ∷ []) new
warm-added parts n before term name y row old new is start are named block names rows multipliers over =
    let setting : Setting = plain_setting parts n in
    let held = All-contains HasSmallMultiplier (before ++ term ∷ []) term start.multipliers (Contains-push before term) in
    let small : y ≤ MOST_MULTIPLIER = subst HasSmallMultiplier is held in
    let there = ap (is_there setting) is ∙ named-there parts n name row named in
    let long : length old.guess.y ≡ length old.block.rows = are.guess.as_many in
    record {
      block = block;
      guess = record {
        as_many = rw (rows, multipliers) (length_push old.guess.y y ∙ ap (λ (m : ℕ). m + 1) long ∙ sym (length_push old.block.rows row));
        within = rw multipliers (All-push (λ (z : ℕ). z ≤ MOST_MULTIPLIER) old.guess.y y are.guess.within small);
        some = omega (arith, over, are.guess.some);
        most = omega (arith, over, are.guess.most);
      };
      same = ap₂ entries_by names multipliers
          ∙ entries-push old.block.names old.guess.y name y (long ∙ as-many parts n old.block are.block)
          ∙ ap₂ (λ (front : List Term) (last : Term). front ++ last ∷ []) are.same (sym is)
          ∙ sym (there-more setting before term true there);
    }
