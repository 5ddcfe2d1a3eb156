use Rattle.std.proofs.Common.{◌≡◌, ◌∙◌, sym, ap, ℕ, ◌<◌, List, [], map, length, get_or, arith, below_more}
use Rattle.std.proofs.lemmas.List.{get_or-map, length-map}
use Rattle.std.proofs.lemmas.List.Sums.{position_or_len_is}
use Rattle.std.specs.Str.{bytes_eq}
use Rattle.plant_model.proofs.named.first_named.Goals as goal

-- the name of the entry at i, which is x, among the names
name_at : {X : Type 0} (name_of : X → List ℕ) (xs : List X) (i : ℕ) (x : X) (name : List ℕ) → i < length xs → x ≡ get_or xs i x → name ≡ name_of x
    → get_or (map name_of xs) i [] ≡ name
name_at name_of xs i x name within is named = get_or-map name_of xs i x [] within ∙ ap name_of (sym is) ∙ sym named

pub loop-number-preserved : goal.loop-number-preserved
loop-number-preserved g c =
    below_more _ _ c.loop-number.invariant
    (ap (λ name. bytes_eq name c.args.name.now)
    (name_at g.T.Named.name_of c.args.entries.now c.loop-number.number c.index-entries-number.result c.name.result.now
    (omega arith) c.index-entries-number.is c.name.ensures)
    ∙ sym c.eq.ensures ∙ c.if-eq.false)

pub returns-then-eq-clause-value : goal.returns-then-eq-clause-value
returns-then-eq-clause-value g c =
    let names : List (List ℕ) = map g.T.Named.name_of c.args.entries.now in
    let count : length names ≡ length c.args.entries.now = length-map c.args.entries.now g.T.Named.name_of in
    sym (position_or_len_is (λ other. bytes_eq other c.args.name.now) names c.loop-number.number [] (omega arith) c.loop-number.invariant
    (λ _. ap (λ name. bytes_eq name c.args.name.now)
    (name_at g.T.Named.name_of c.args.entries.now c.loop-number.number c.index-entries-number.result c.name.result.now
    (omega arith) c.index-entries-number.is c.name.ensures)
    ∙ sym c.eq.ensures ∙ c.if-eq.true))

pub returns-clause-value : goal.returns-clause-value
returns-clause-value g c =
    let names : List (List ℕ) = map g.T.Named.name_of c.args.entries.now in
    let count : length names ≡ length c.args.entries.now = length-map c.args.entries.now g.T.Named.name_of in
    sym (position_or_len_is (λ other. bytes_eq other c.args.name.now) names (length c.args.entries.now) [] (omega arith)
    (λ k within. c.loop-number.invariant k (omega arith)) (λ past. absurd (omega arith)))
