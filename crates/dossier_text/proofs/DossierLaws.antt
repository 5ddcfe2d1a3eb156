-- A dossier that was written is read as what it was, and what is read is so written.
use Rattle.std.proofs.Common.{◌≡◌, ℕ, ◌-◌, ◌+◌, ◌^◌, ◌<◌, ◌≤◌, List, [], ◌∷◌, ◌++◌, length, Result, Ok, Err, refl, sym, ap, subst, ◌∙◌, arith, append_assoc}
use Rattle.std.specs.Prelude.{codes, decimal, IfOk}
use Rattle.std.proofs.lemmas.List.{append-nil}
use Rattle.limits.specs.declared.TheConstants.{MOST_NODES}
use Rattle.line_text.specs.Words.{text_of}
use Rattle.line_text.proofs.WordLaws.{literal}
use Rattle.dossier_text.specs.declared.fault.DossierFault.{DossierFault}
use Rattle.dossier_text.specs.declared.fault.DossierFault.TheVariants.{Line}
use Rattle.dossier_text.specs.declared.dossier.Dossier.{Dossier}
use Rattle.dossier_text.specs.declared.head_lines.Sizes.{Sizes}
use Rattle.dossier_text.specs.declared.head_lines.Claim.{Claim}
use Rattle.dossier_text.specs.Nodes.{node_lines}
use Rattle.dossier_text.specs.Ranges.{IsReadable}
use Rattle.dossier_text.specs.Text.{answer_word, format_lines, size_lines, claim_lines, plan_lines, cut_lines, dossier_bytes}
use Rattle.dossier_text.specs.Entries.{signed_word}
use Rattle.dossier_text.specs.Faults.{Gives}
use Rattle.dossier_text.specs.inside.HeadReading.{fixed_at, format_at, count_at, sizes_at, answer_at, claimed_at, claim_at}
use Rattle.dossier_text.specs.Reading.{plan_at, cuts_at, tree_at, none_left, ending_at, plan_length, dossier_at, put_together}
use Rattle.dossier_text.proofs.Joining.{dossier_bytes_in_parts}
use Rattle.dossier_text.proofs.StepLaws.{same_Ok, no_fault, behind}
use Rattle.dossier_text.proofs.HeadLaws.{whole_line, more_text, fixed_at-ok, fixed_at-again, format_at-ok, format_at-again, IsCount, count_at-ok, count_at-again}
use Rattle.dossier_text.proofs.ClaimLaws.{IsClaim, answer_at-ok, answer_at-again, claimed_at-ok, claimed_at-again}
use Rattle.dossier_text.proofs.ListLaws.{plan_at-ok, plan_at-again, cuts_at-ok, cuts_at-again, tree_at-ok, tree_at-again}

-- the texts of two lines and of three, and what stands behind them
two_lines : (a b rest : List ℕ) → (a ++ (b ++ [])) ++ rest ≡ a ++ (b ++ rest)
two_lines a b rest = append_assoc a (b ++ []) rest ∙ ap (λ (t : List ℕ). a ++ (t ++ rest)) (append-nil b)

three_lines : (a b c rest : List ℕ) → (a ++ (b ++ (c ++ []))) ++ rest ≡ a ++ (b ++ (c ++ rest))
three_lines a b c rest = append_assoc a (b ++ (c ++ [])) rest ∙ ap (λ (t : List ℕ). a ++ t) (two_lines b c rest)

-- ---- sizes

pub record AreSizes (sizes : Sizes) : Type 0 where
  pub slots : sizes.slots < 2 ^ 32
  pub nodes : sizes.nodes ≤ MOST_NODES

sizes_at-ok : (bytes : List ℕ) (read : Sizes × List ℕ) → sizes_at bytes ≡ Ok read → (bytes ≡ text_of (size_lines read.0.slots read.0.nodes) ++ read.1) ×
    AreSizes read.0
unfolding sizes_at size_lines
sizes_at-ok bytes read found =
    behind (count_at 3 (codes "slots") (2 ^ 32 - 1) bytes) _ read found
    (λ slots is found.
    behind (count_at 4 (codes "nodes") MOST_NODES slots.1) _ read found
    (λ nodes are found.
    let first = count_at-ok 3 (codes "slots") (2 ^ 32 - 1) bytes slots is in
    let second = count_at-ok 4 (codes "nodes") MOST_NODES slots.1 nodes are in
    let rest = more_text (codes "nodes" ∷ decimal nodes.0 ∷ []) [] slots.1 nodes.1 nodes.1 second.0 refl in
    let whole = more_text (codes "slots" ∷ decimal slots.0 ∷ []) ((codes "nodes" ∷ decimal nodes.0 ∷ []) ∷ []) bytes slots.1 nodes.1 first.0 rest in
    let sizes : Sizes = record { slots = slots.0; nodes = nodes.0 } in
    let fits : AreSizes sizes = record { slots = first.1.small; nodes = second.1.few } in
    subst (λ (r : Sizes × List ℕ). (bytes ≡ text_of (size_lines r.0.slots r.0.nodes) ++ r.1) × AreSizes r.0) (same_Ok (sizes, nodes.1) read found)
    (whole, fits)))

sizes_at-again : (slots nodes : ℕ) (rest : List ℕ) → slots < 2 ^ 32 → nodes ≤ MOST_NODES → sizes_at (text_of (size_lines slots nodes) ++ rest)
    ≡ Ok (record { slots = slots; nodes = nodes }, rest)
unfolding sizes_at size_lines
sizes_at-again slots nodes rest small few =
    let regrouped : text_of (size_lines slots nodes) ++ rest ≡ whole_line (codes "slots" ∷ decimal slots ∷ [])
    ++ (whole_line (codes "nodes" ∷ decimal nodes ∷ []) ++ rest) =
    two_lines (whole_line (codes "slots" ∷ decimal slots ∷ [])) (whole_line (codes "nodes" ∷ decimal nodes ∷ [])) rest in
    let first : IsCount (2 ^ 32 - 1) slots = record { small = small; few = omega arith } in
    let second : IsCount MOST_NODES nodes = record { small = omega arith; few = few } in
    ap sizes_at regrouped
    ∙ rw (
      count_at-again 3 (codes "slots") (2 ^ 32 - 1) slots (whole_line (codes "nodes" ∷ decimal nodes ∷ []) ++ rest) (literal (codes "slots") refl refl) first,
      count_at-again 4 (codes "nodes") MOST_NODES nodes rest (literal (codes "nodes") refl refl) second,
    )
    refl

-- ---- claims

pub record IsClaims (claim : Claim) : Type 0 where
  pub margin : IsClaim claim.margin
  pub bound : IsClaim claim.bound

claim_at-ok : (bytes : List ℕ) (read : Claim × List ℕ) → claim_at bytes ≡ Ok read →
    (bytes ≡ text_of (claim_lines read.0.answer read.0.margin read.0.bound) ++ read.1) × IsClaims read.0
unfolding claim_at claim_lines
claim_at-ok bytes read found =
    behind (answer_at bytes) _ read found
    (λ answer is found.
    behind (claimed_at 6 (codes "margin") answer.1) _ read found
    (λ margin are found.
    behind (claimed_at 7 (codes "bound") margin.1) _ read found
    (λ bound be found.
    let first = answer_at-ok bytes answer is in
    let second = claimed_at-ok 6 (codes "margin") answer.1 margin are in
    let third = claimed_at-ok 7 (codes "bound") margin.1 bound be in
    let last = more_text (codes "bound" ∷ signed_word bound.0 ∷ []) [] margin.1 bound.1 bound.1 third.0 refl in
    let middle = more_text (codes "margin" ∷ signed_word margin.0 ∷ []) ((codes "bound" ∷ signed_word bound.0 ∷ []) ∷ []) answer.1 margin.1 bound.1 second.0
    last in
    let whole = more_text (codes "answer" ∷ answer_word answer.0 ∷ []) ((codes "margin" ∷ signed_word margin.0 ∷ [])
    ∷ (codes "bound" ∷ signed_word bound.0 ∷ []) ∷ []) bytes answer.1 bound.1 first middle in
    let claim : Claim = record { answer = answer.0; margin = margin.0; bound = bound.0 } in
    let fits : IsClaims claim = record { margin = second.1; bound = third.1 } in
    subst (λ (r : Claim × List ℕ). (bytes ≡ text_of (claim_lines r.0.answer r.0.margin r.0.bound) ++ r.1) × IsClaims r.0) (same_Ok (claim, bound.1) read found)
    (whole, fits))))

claim_at-again : (claim : Claim) (rest : List ℕ) → IsClaims claim → claim_at (text_of (claim_lines claim.answer claim.margin claim.bound) ++ rest)
    ≡ Ok (claim, rest)
unfolding claim_at claim_lines
claim_at-again claim rest is =
    let last : List ℕ = whole_line (codes "bound" ∷ signed_word claim.bound ∷ []) ++ rest in
    let regrouped : text_of (claim_lines claim.answer claim.margin claim.bound) ++ rest ≡ whole_line (codes "answer" ∷ answer_word claim.answer ∷ [])
    ++ (whole_line (codes "margin" ∷ signed_word claim.margin ∷ []) ++ last) =
    three_lines (whole_line (codes "answer" ∷ answer_word claim.answer ∷ [])) (whole_line (codes "margin" ∷ signed_word claim.margin ∷ []))
    (whole_line (codes "bound" ∷ signed_word claim.bound ∷ [])) rest in
    ap claim_at regrouped
    ∙ rw (
      answer_at-again claim.answer (whole_line (codes "margin" ∷ signed_word claim.margin ∷ []) ++ last),
      claimed_at-again 6 (codes "margin") claim.margin last (literal (codes "margin") refl refl) is.margin,
      claimed_at-again 7 (codes "bound") claim.bound rest (literal (codes "bound") refl refl) is.bound,
    )
    refl

-- ---- the last line

none_left-ok : (line : ℕ) (bytes rest : List ℕ) → none_left line bytes ≡ Ok rest → bytes ≡ []
none_left-ok line [] rest found = refl
none_left-ok line (byte ∷ bytes) rest found = no_fault (Line line) rest found

ending_at-ok : (line : ℕ) (bytes rest : List ℕ) → ending_at line bytes ≡ Ok rest → bytes ≡ codes "end\n"
unfolding ending_at
ending_at-ok line bytes rest found =
    behind (fixed_at line (codes "end") bytes) _ rest found
    (λ after is found. fixed_at-ok line (codes "end") bytes after is ∙ ap (λ (t : List ℕ). codes "end" ++ 10 ∷ t) (none_left-ok (line + 1) after rest found))

ending_at-again : (line : ℕ) → ending_at line (codes "end\n") ≡ Ok []
unfolding ending_at
ending_at-again line = rw (fixed_at-again line (codes "end" ∷ []) [] (literal (codes "end") refl refl, tt)) refl

-- ---- the whole

-- seven texts, one behind the other
regrouped : (a b c d e f g : List ℕ) → a ++ b ++ c ++ d ++ e ++ f ++ g ≡ a ++ (b ++ (c ++ (d ++ (e ++ (f ++ g)))))
regrouped a b c d e f g = simp append_assoc

joined : (a b c d e f bytes r0 r1 r2 r3 r4 r5 : List ℕ) → bytes ≡ a ++ r0 → r0 ≡ b ++ r1 → r1 ≡ c ++ r2 → r2 ≡ d ++ r3 → r3 ≡ e ++ r4 → r4 ≡ f ++ r5 →
    r5 ≡ codes "end\n" → bytes ≡ a ++ b ++ c ++ d ++ e ++ f ++ codes "end\n"
joined a b c d e f bytes r0 r1 r2 r3 r4 r5 e0 e1 e2 e3 e4 e5 e6 = rw (e0, e1, e2, e3, e4, e5, e6) (sym (regrouped a b c d e f (codes "end\n")))

pub dossier_at-ok : (bytes : List ℕ) (dossier : Dossier) → dossier_at bytes ≡ Ok dossier → IsReadable dossier × (bytes ≡ dossier_bytes dossier)
unfolding dossier_at
dossier_at-ok bytes dossier found =
    behind (format_at bytes) _ dossier found
    (λ r0 f0 found.
    behind (sizes_at r0) _ dossier found
    (λ sizes f1 found.
    behind (claim_at sizes.1) _ dossier found
    (λ claim f2 found.
    behind (plan_at claim.1) _ dossier found
    (λ plan f3 found.
    behind (cuts_at (9 + plan_length plan.0) plan.1) _ dossier found
    (λ cuts f4 found.
    behind (tree_at (10 + plan_length plan.0 + length cuts.0) sizes.0.nodes cuts.1) _ dossier found
    (λ tree f5 found.
    behind (ending_at (10 + plan_length plan.0 + length cuts.0 + length tree.0) tree.1) _ dossier found
    (λ r7 f6 found.
    let e0 = format_at-ok bytes r0 f0 in
    let e1 = sizes_at-ok r0 sizes f1 in
    let e2 = claim_at-ok sizes.1 claim f2 in
    let e3 = plan_at-ok claim.1 plan f3 in
    let e4 = cuts_at-ok (9 + plan_length plan.0) plan.1 cuts f4 in
    let e5 = tree_at-ok (10 + plan_length plan.0 + length cuts.0) sizes.0.nodes cuts.1 tree f5 in
    let e6 = ending_at-ok (10 + plan_length plan.0 + length cuts.0 + length tree.0) tree.1 r7 f6 in
    let made = put_together sizes.0 claim.0 plan.0 cuts.0 tree.0 in
    let fits : IsReadable made = record {
      slots = e1.1.slots;
      nodes = e1.1.nodes;
      margin = e2.1.margin;
      bound = e2.1.bound;
      plan = e3.1;
      few_cuts = e4.1.0;
      cuts = e4.1.1;
      all_nodes = e5.1.all;
      tree = e5.1.each;
    } in
    let whole : bytes ≡ dossier_bytes made =
    joined (text_of format_lines) (text_of (size_lines made.slots made.nodes)) (text_of (claim_lines made.answer made.margin made.bound))
    (text_of (plan_lines made.plan)) (text_of (cut_lines made.cuts)) (text_of (node_lines 0 made.tree)) bytes r0 sizes.1 claim.1 plan.1 cuts.1 tree.1 e0
    e1.0 e2.0 e3.0 e4.0 e5.0 e6
    ∙ sym (dossier_bytes_in_parts made) in
    subst (λ (d : Dossier). IsReadable d × (bytes ≡ dossier_bytes d)) (same_Ok made dossier found) (fits, whole))))))))

pub dossier_at-again : (dossier : Dossier) → IsReadable dossier → dossier_at (dossier_bytes dossier) ≡ Ok dossier
unfolding dossier_at
dossier_at-again d is =
    let claim : Claim = record { answer = d.answer; margin = d.margin; bound = d.bound } in
    ap dossier_at (dossier_bytes_in_parts d ∙ regrouped (text_of format_lines) (text_of (size_lines d.slots d.nodes))
    (text_of (claim_lines d.answer d.margin d.bound)) (text_of (plan_lines d.plan)) (text_of (cut_lines d.cuts)) (text_of (node_lines 0 d.tree))
    (codes "end\n"))
    ∙ rw (
      format_at-again,
      sizes_at-again d.slots d.nodes _ is.slots is.nodes,
      claim_at-again claim _ (record { margin = is.margin; bound = is.bound }),
      plan_at-again d.plan _ is.plan,
      cuts_at-again _ d.cuts _ (is.few_cuts, is.cuts),
      tree_at-again _ d.nodes d.tree _ (record { all = is.all_nodes; each = is.tree }) is.nodes,
      ending_at-again,
    )
    refl

-- the two sides of what a reader answers
pub dossier-found : (bytes : List ℕ) (answer : Result Dossier DossierFault) → Gives (λ d. d) answer (dossier_at bytes) →
    IfOk answer (λ d. IsReadable d × (bytes ≡ dossier_bytes d))
dossier-found bytes (Ok d) given = dossier_at-ok bytes d given
dossier-found bytes (Err fault) given = tt

pub dossier-only : (bytes : List ℕ) (answer : Result Dossier DossierFault) → Gives (λ d. d) answer (dossier_at bytes) → (dossier : Dossier) → IsReadable dossier
    → bytes ≡ dossier_bytes dossier → Gives (λ d. d) answer (Ok dossier)
dossier-only bytes answer given dossier is text = subst (λ (read : Result Dossier DossierFault). Gives (λ d. d) answer read)
    (ap dossier_at text ∙ dossier_at-again dossier is) given
