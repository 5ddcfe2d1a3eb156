-- Lines that are read one after the other, each with its index.
use Rattle.std.proofs.Common.{◌≡◌, ℕ, zero, suc, ◌+◌, List, [], ◌∷◌, ◌++◌, length, Result, Ok, refl, sym, ap, subst, ◌∙◌, append_assoc}
use Rattle.line_text.specs.Words.{line_of, text_of}
use Rattle.dossier_text.specs.declared.fault.DossierFault.{DossierFault}
use Rattle.line_text.proofs.WordLaws.{AreWords}
use Rattle.dossier_text.specs.inside.ListReading.{each_line, item_at, items_at}
use Rattle.dossier_text.proofs.StepLaws.{same_Ok, behind, behind_line, line_at-words}
use Rattle.dossier_text.proofs.HeadLaws.{line_in_front}

module _ {X : Type 0} (words : ℕ → X → List (List ℕ)) (Is : ℕ → X → Type 0) where
  -- the lines of the items, the first of which has this index
  abbrev pub lines_from : ℕ → List X → List (List (List ℕ))
  lines_from index [] = []
  lines_from index (x ∷ xs) = words index x ∷ lines_from (index + 1) xs

  -- each is what it is to be at its index
  abbrev pub AllFrom : ℕ → List X → Type 0
  AllFrom index [] = Unit {0}
  AllFrom index (x ∷ xs) = Is index x × AllFrom (index + 1) xs

  -- the text of one line
  abbrev pub one_line : ℕ → X → List ℕ
  one_line index x = line_of (words index x) ++ 10 ∷ []

  -- a way to read such a line
  record ReadsLines (read : ℕ → List ℕ → Result (X × List ℕ) DossierFault) : Type 0 where
    read_is : (index : ℕ) (bytes : List ℕ) (x : X) (rest : List ℕ) → read index bytes ≡ Ok (x, rest) → (bytes ≡ one_line index x ++ rest) × Is index x
    again : (index : ℕ) (x : X) (rest : List ℕ) → Is index x → read index (one_line index x ++ rest) ≡ Ok (x, rest)

  abbrev pub LinesAre : ℕ → ℕ → List ℕ → List X × List ℕ → Type 0
  LinesAre count index bytes lines = (bytes ≡ text_of (lines_from index lines.0) ++ lines.1) × (length lines.0 ≡ count) × AllFrom index lines.0

  each_line-ok : (read : ℕ → List ℕ → Result (X × List ℕ) DossierFault) → ReadsLines read → (count index : ℕ) (bytes : List ℕ) (lines : List X × List ℕ) →
      each_line read count index bytes ≡ Ok lines → LinesAre count index bytes lines
  each_line-ok read law zero index bytes lines found = subst (λ (l : List X × List ℕ). LinesAre 0 index bytes l) (same_Ok ([], bytes) lines found)
      (refl, refl, tt)
  each_line-ok read law (suc count) index bytes lines found =
      behind (read index bytes) _ lines found
      (λ first is found.
      behind (each_line read count (index + 1) first.1) _ lines found
      (λ others are found.
      let one = law.read_is index bytes first.0 first.1 is in
      let more = each_line-ok read law count (index + 1) first.1 others are in
      let whole : bytes ≡ text_of (lines_from index (first.0 ∷ others.0)) ++ others.1 =
      one.0 ∙ ap (λ (rest : List ℕ). one_line index first.0 ++ rest) more.0
      ∙ sym (append_assoc (one_line index first.0) (text_of (lines_from (index + 1) others.0)) others.1) in
      subst (λ (l : List X × List ℕ). LinesAre (suc count) index bytes l) (same_Ok (first.0 ∷ others.0, others.1) lines found)
      (whole, ap suc more.1, (one.1, more.2))))

  each_line-again : (read : ℕ → List ℕ → Result (X × List ℕ) DossierFault) → ReadsLines read → (index : ℕ) (xs : List X) (rest : List ℕ) → AllFrom index xs →
      each_line read (length xs) index (text_of (lines_from index xs) ++ rest) ≡ Ok (xs, rest)
  each_line-again read law index [] rest each = refl
  each_line-again read law index (x ∷ xs) rest each =
      let regrouped : text_of (lines_from index (x ∷ xs)) ++ rest ≡ one_line index x ++ (text_of (lines_from (index + 1) xs) ++ rest) =
      append_assoc (one_line index x) (text_of (lines_from (index + 1) xs)) rest in
      ap (each_line read (length (x ∷ xs)) index) regrouped
      ∙ rw (law.again index x (text_of (lines_from (index + 1) xs) ++ rest) each.0, each_line-again read law (index + 1) xs rest each.1) refl

  -- ---- items, each by what the text of its line says

  -- a way to read the text of such a line
  pub record ReadsItems (said : ℕ → ℕ → List ℕ → Result X DossierFault) : Type 0 where
    pub said_is : (line index : ℕ) (text : List ℕ) (x : X) → said line index text ≡ Ok x → (text ≡ line_of (words index x)) × Is index x
    pub again : (line index : ℕ) (x : X) → Is index x → said line index (line_of (words index x)) ≡ Ok x
    pub word : (index : ℕ) (x : X) → Is index x → AreWords (words index x)

  item_at-ok : (said : ℕ → ℕ → List ℕ → Result X DossierFault) → ReadsItems said → (line index : ℕ) (bytes : List ℕ) (x : X) (rest : List ℕ) →
      item_at said line index bytes ≡ Ok (x, rest)
      → (bytes ≡ one_line index x ++ rest) × Is index x
  unfolding item_at
  item_at-ok said law line index bytes x rest found =
      behind_line line bytes _ (x, rest) found
      (λ text after whole found.
      behind (said line index text) _ (x, rest) found
      (λ read is found.
      let item = law.said_is line index text read is in
      subst (λ (r : X × List ℕ). (bytes ≡ one_line index r.0 ++ r.1) × Is index r.0) (same_Ok (read, after) (x, rest) found)
      (line_in_front (words index read) text bytes after whole item.0, item.1)))

  item_at-again : (said : ℕ → ℕ → List ℕ → Result X DossierFault) → ReadsItems said → (line index : ℕ) (x : X) (rest : List ℕ) → Is index x →
      item_at said line index (one_line index x ++ rest) ≡ Ok (x, rest)
  unfolding item_at
  item_at-again said law line index x rest is =
      rw (line_at-words line (words index x) rest (law.word index x is), law.again line index x is) refl

  reads_lines : (said : ℕ → ℕ → List ℕ → Result X DossierFault) → ReadsItems said → (first : ℕ) → ReadsLines (λ index. item_at said (first + index) index)
  reads_lines said law first = record {
    read_is = λ index. item_at-ok said law (first + index) index;
    again = λ index. item_at-again said law (first + index) index;
  }

  pub items_at-ok : (said : ℕ → ℕ → List ℕ → Result X DossierFault) → ReadsItems said → (first count : ℕ) (bytes : List ℕ) (lines : List X × List ℕ) →
      items_at said first count bytes ≡ Ok lines → LinesAre count 0 bytes lines
  items_at-ok said law first count bytes lines found =
      each_line-ok (λ index. item_at said (first + index) index) (reads_lines said law first) count 0 bytes lines found

  pub items_at-again : (said : ℕ → ℕ → List ℕ → Result X DossierFault) → ReadsItems said → (first : ℕ) (xs : List X) (rest : List ℕ) → AllFrom 0 xs →
      items_at said first (length xs) (text_of (lines_from 0 xs) ++ rest) ≡ Ok (xs, rest)
  items_at-again said law first xs rest each =
      each_line-again (λ index. item_at said (first + index) index) (reads_lines said law first) 0 xs rest each
