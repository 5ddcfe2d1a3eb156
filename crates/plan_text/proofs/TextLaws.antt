-- Texts of lines are read in one way.
use Rattle.std.proofs.Common.{◌≡◌, ◌≢◌, ◌⊎◌, ℕ, ◌+◌, ◌≤◌, List, [], ◌∷◌, ◌++◌, length, Some, refl, sym, ap, ap₂, subst, ◌∙◌, append_assoc, arith, inl, inr}
use Rattle.std.specs.Prelude.{codes}
use Rattle.std.proofs.lemmas.List.{append-nil}
use Rattle.std.proofs.lemmas.Option.{same_Some}
use Rattle.limits.specs.declared.TheConstants.{MOST_STEPS}
use Rattle.line_text.specs.Words.{words_of, parts_at}
use Rattle.line_text.proofs.WordLaws.{words_of-line_of, text_of-first_line}
use Rattle.plan_text.specs.declared.op_line.OpLine.{OpLine}
use Rattle.plan_text.specs.OpLine.{op_line_words, op_line_bytes, IsOpLine, op_line_at}
use Rattle.plan_text.specs.PlanText.{AreOpLines, lines_bytes, BeginsWithLine, IsFirstBad, ReadOneWay}
use Rattle.plan_text.proofs.OpLineLaws.{op_line_at-again, op_line_words-are_words}

-- a line is the bytes before the first line feed
pub first_line : (line : OpLine) (after : List ℕ) → IsOpLine line → parts_at 10 (op_line_bytes line ++ 10 ∷ after) ≡ Some (op_line_bytes line, after)
first_line line after is = text_of-first_line (op_line_words line) after (op_line_words-are_words line is)

-- two lines of one text are one
pub same_text : (a b : OpLine) → IsOpLine a → IsOpLine b → op_line_bytes a ≡ op_line_bytes b → a ≡ b
same_text a b is_a is_b same =
    let words : op_line_words a ≡ op_line_words b =
    sym (words_of-line_of (codes "op") _ (op_line_words-are_words a is_a)) ∙ ap words_of same
    ∙ words_of-line_of (codes "op") _ (op_line_words-are_words b is_b) in
    same_Some a b (sym (op_line_at-again a is_a) ∙ ap op_line_at words ∙ op_line_at-again b is_b)

-- two texts that are one begin with one line
pub same_first : (a b : OpLine) (r s : List ℕ) → IsOpLine a → IsOpLine b → op_line_bytes a ++ 10 ∷ r ≡ op_line_bytes b ++ 10 ∷ s → (a ≡ b) × (r ≡ s)
same_first a b r s is_a is_b same =
    let parts : (op_line_bytes a, r) ≡ (op_line_bytes b, s) =
    same_Some (op_line_bytes a, r) (op_line_bytes b, s) (sym (first_line a r is_a) ∙ ap (parts_at 10) same ∙ first_line b s is_b) in
    (same_text a b is_a is_b (ap (λ (p : List ℕ × List ℕ). p.0) parts), ap (λ (p : List ℕ × List ℕ). p.1) parts)

-- the first of several lines, and what stands behind it
pub lines_bytes-cons : (line : OpLine) (lines : List OpLine) (rest : List ℕ) →
    lines_bytes (line ∷ lines) ++ rest ≡ op_line_bytes line ++ 10 ∷ (lines_bytes lines ++ rest)
lines_bytes-cons line lines rest =
    append_assoc (op_line_bytes line ++ 10 ∷ []) (lines_bytes lines) rest
    ∙ append_assoc (op_line_bytes line) (10 ∷ []) (lines_bytes lines ++ rest)

-- one line more at the end
pub lines_bytes-push : (lines : List OpLine) (line : OpLine) (rest : List ℕ) →
    lines_bytes lines ++ (op_line_bytes line ++ 10 ∷ rest) ≡ lines_bytes (lines ++ line ∷ []) ++ rest
lines_bytes-push [] line rest = sym (lines_bytes-cons line [] rest)
lines_bytes-push (first ∷ lines) line rest =
    lines_bytes-cons first lines (op_line_bytes line ++ 10 ∷ rest)
    ∙ ap (λ (t : List ℕ). op_line_bytes first ++ 10 ∷ t) (lines_bytes-push lines line rest)
    ∙ sym (lines_bytes-cons first (lines ++ line ∷ []) rest)

pub AreOpLines-push : (number : ℕ) (lines : List OpLine) (line : OpLine) → AreOpLines number lines → line.number ≡ number + length lines → IsOpLine line →
    AreOpLines number (lines ++ line ∷ [])
AreOpLines-push number [] line are is form = (omega arith, form, tt)
AreOpLines-push number (first ∷ lines) line are is form = (are.0, are.1, AreOpLines-push (number + 1) lines line are.2 (omega arith) form)

begins : (number : ℕ) (line : OpLine) (lines : List OpLine) (after rest : List ℕ) → AreOpLines number (line ∷ lines) →
    rest ≡ lines_bytes (line ∷ lines) ++ after → BeginsWithLine number rest
begins number line lines after rest are text = record {
  line = line;
  after = lines_bytes lines ++ after;
  form = are.1;
  numbered = are.0;
  text = text ∙ lines_bytes-cons line lines after;
}

-- no text of a line is empty
some_text : (line : OpLine) (lines : List OpLine) (after : List ℕ) → lines_bytes (line ∷ lines) ++ after ≢ []
some_text line lines after empty = cc

-- ---- where lines end, with so many before them

-- what stands behind lines is not another of theirs
record Ends (count : ℕ) (rest : List ℕ) : Type 0 where
  some : rest ≢ []
  bad : (count ≡ MOST_STEPS) ⊎ (BeginsWithLine (count + 1) rest → ⊥)

ended : {P : Type 0} (count : ℕ) (line : OpLine) (lines : List OpLine) (after rest : List ℕ) → AreOpLines (count + 1) (line ∷ lines) →
    count + length (line ∷ lines) ≤ MOST_STEPS → Ends count rest → rest ≡ lines_bytes (line ∷ lines) ++ after → P
ended count line lines after rest are few ends text =
    elim ends.bad [
      | inl full ↦ absurd (omega arith)
      | inr other ↦ absurd (other (begins (count + 1) line lines after rest are text))
    ]

-- lines that end where no other of theirs can stand are as many as any others of the same bytes that end so
same_count : (count : ℕ) (lines others : List OpLine) (r s : List ℕ) → AreOpLines (count + 1) lines → AreOpLines (count + 1) others →
    count + length lines ≤ MOST_STEPS → count + length others ≤ MOST_STEPS → Ends (count + length lines) r → Ends (count + length others) s →
    lines_bytes lines ++ r ≡ lines_bytes others ++ s → length lines ≡ length others
same_count count [] [] r s are_l are_o few_l few_o ends_l ends_o same = refl
same_count count [] (b ∷ others) r s are_l are_o few_l few_o ends_l ends_o same =
    ended count b others s r are_o few_o (subst (λ (n : ℕ). Ends n r) (omega arith) ends_l) same
same_count count (a ∷ lines) [] r s are_l are_o few_l few_o ends_l ends_o same =
    ended count a lines r s are_l few_l (subst (λ (n : ℕ). Ends n s) (omega arith) ends_o) (sym same)
same_count count (a ∷ lines) (b ∷ others) r s are_l are_o few_l few_o ends_l ends_o same =
    let next = same_first a b (lines_bytes lines ++ r) (lines_bytes others ++ s) are_l.1 are_o.1
    (sym (lines_bytes-cons a lines r) ∙ same ∙ lines_bytes-cons b others s) in
    let more : length lines ≡ length others =
    same_count (count + 1) lines others r s are_l.2 are_o.2 (omega arith) (omega arith) (subst (λ (n : ℕ). Ends n r) (omega arith) ends_l)
    (subst (λ (n : ℕ). Ends n s) (omega arith) ends_o) next.1 in
    omega arith

-- lines that fill all bytes are no others
same_lines : (number : ℕ) (lines others : List OpLine) → AreOpLines number lines → AreOpLines number others → lines_bytes lines ++ [] ≡ lines_bytes others ++ []
    → lines ≡ others
same_lines number [] [] are_l are_o same = refl
same_lines number [] (b ∷ others) are_l are_o same = absurd (some_text b others [] (sym same))
same_lines number (a ∷ lines) [] are_l are_o same = absurd (some_text a lines [] same)
same_lines number (a ∷ lines) (b ∷ others) are_l are_o same =
    let next = same_first a b (lines_bytes lines ++ []) (lines_bytes others ++ []) are_l.1 are_o.1
    (sym (lines_bytes-cons a lines []) ∙ same ∙ lines_bytes-cons b others []) in
    ap₂ (λ (x : OpLine) (xs : List OpLine). x ∷ xs) next.0 (same_lines (number + 1) lines others are_l.2 are_o.2 next.1)

-- and none of those ends before the end of the bytes
not_ended : (count : ℕ) (lines others : List OpLine) (s : List ℕ) → AreOpLines (count + 1) lines → AreOpLines (count + 1) others →
    count + length lines ≤ MOST_STEPS → Ends (count + length others) s → lines_bytes lines ++ [] ≡ lines_bytes others ++ s → ⊥
not_ended count [] [] s are_l are_o few ends same = ends.some (sym same)
not_ended count [] (b ∷ others) s are_l are_o few ends same = some_text b others s (sym same)
not_ended count (a ∷ lines) [] s are_l are_o few ends same =
    ended count a lines [] s are_l few (subst (λ (n : ℕ). Ends n s) (omega arith) ends) (sym same)
not_ended count (a ∷ lines) (b ∷ others) s are_l are_o few ends same =
    let next = same_first a b (lines_bytes lines ++ []) (lines_bytes others ++ s) are_l.1 are_o.1
    (sym (lines_bytes-cons a lines []) ∙ same ∙ lines_bytes-cons b others s) in
    not_ended (count + 1) lines others s are_l.2 are_o.2 (omega arith) (subst (λ (n : ℕ). Ends n s) (omega arith) ends) next.1

ends_of : (bytes : List ℕ) (n : ℕ) (bad : IsFirstBad bytes n) → Ends (0 + length bad.lines) bad.rest
ends_of bytes n bad =
    let next : n ≡ length bad.lines + 1 = bad.next in
    let whole : length bad.lines ≡ 0 + length bad.lines = omega arith in
    subst (λ (m : ℕ). Ends m bad.rest) whole
    (record {
      some = bad.some;
      bad = subst (λ (m : ℕ). (length bad.lines ≡ MOST_STEPS) ⊎ (BeginsWithLine m bad.rest → ⊥)) next bad.bad;
    })

pub read_one_way : (bytes : List ℕ) → ReadOneWay bytes
read_one_way bytes = record {
  one_text = λ lines others is are.
      same_lines 1 lines others is.numbered are.numbered
      (append-nil (lines_bytes lines) ∙ sym is.text ∙ are.text ∙ sym (append-nil (lines_bytes others)));
  one_bad = λ m n first other.
      let few = first.few in
      let few' = other.few in
      let next = first.next in
      let next' = other.next in
      let same : length first.lines ≡ length other.lines =
      same_count 0 first.lines other.lines first.rest other.rest first.numbered other.numbered (omega arith) (omega arith) (ends_of bytes m first)
      (ends_of bytes n other) (sym first.text ∙ other.text) in
      omega arith;
  not_both = λ lines n is bad.
      let few = is.few in
      not_ended 0 lines bad.lines bad.rest is.numbered bad.numbered (omega arith) (ends_of bytes n bad)
      (append-nil (lines_bytes lines) ∙ sym is.text ∙ bad.text);
}
