-- Reading lines one after the other, as a loop does.
use Rattle.std.proofs.Common.{◌≡◌, ℕ, suc, ◌+◌, ◌-◌, ◌<◌, ◌≤◌, List, [], ◌∷◌, ◌++◌, Option, Some, None, Result, Ok, Err, refl, sym, ap, arith, append_assoc}
use Rattle.std.specs.Prelude.{MatchOption, OnOk}
use Rattle.std.specs.Borrow.{Bor}
use Rattle.std.proofs.lemmas.List.{append-nil}
use Rattle.line_text.specs.Lines.{LinesLeft}
use Rattle.line_text.specs.Lines as lines_left
use Rattle.line_text.proofs.LinesLaws.{line_at-some, line_at-none}
use Rattle.dossier_text.specs.declared.fault.DossierFault.{DossierFault}
use Rattle.dossier_text.specs.declared.fault.DossierFault.TheVariants.{Line, TooMany, Memory}
use Rattle.dossier_text.specs.Faults.{◌>>=◌, formed, line_at, Fails, Gives}
use Rattle.dossier_text.specs.inside.ListReading.{each_line}

-- what was read before, and what is still read
abbrev pub with_front : {X : Type 0} → List X → Result (List X × List ℕ) DossierFault → Result (List X × List ℕ) DossierFault
with_front front read = read >>= λ lines. Ok (front ++ lines.0, lines.1)

pub with_front-none : {X : Type 0} (read : Result (List X × List ℕ) DossierFault) → with_front [] read ≡ read
with_front-none (Ok x) = refl
with_front-none (Err fault) = refl

regroup : {X : Type 0} (front : List X) (x : X) (read : Result (List X × List ℕ) DossierFault) → with_front front (read >>= λ lines. Ok (x ∷ lines.0, lines.1))
    ≡ with_front (front ++ x ∷ []) read
regroup {X = X} front x (Ok lines) = ap (λ (xs : List X). Ok (xs, lines.1)) (sym (append_assoc front (x ∷ []) lines.0))
regroup front x (Err fault) = refl

-- one line more
pub goes_on : {X : Type 0} (read : ℕ → List ℕ → Result (X × List ℕ) DossierFault) (front : List X) (count index : ℕ) (bytes after : List ℕ) (x : X) →
    index < count → read index bytes ≡ Ok (x, after)
    → with_front front (each_line read (count - index) index bytes) ≡ with_front (front ++ x ∷ []) (each_line read (count - (index + 1)) (index + 1) after)
goes_on read front count index bytes after x below found =
    let more : count - index ≡ suc (count - (index + 1)) = omega arith in
    rw (more, found) (regroup front x (each_line read (count - (index + 1)) (index + 1) after))

-- a line with a fault
pub ends : {X : Type 0} (fault : DossierFault) (read : ℕ → List ℕ → Result (X × List ℕ) DossierFault) (front : List X) (count index : ℕ) (bytes : List ℕ) →
    index < count → Fails fault (read index bytes)
    → Fails fault (with_front front (each_line read (count - index) index bytes))
ends Memory read front count index bytes below fails = tt
ends (Line line) read front count index bytes below fails =
    let more : count - index ≡ suc (count - (index + 1)) = omega arith in
    rw (more, fails) refl
ends (TooMany line) read front count index bytes below fails =
    let more : count - index ≡ suc (count - (index + 1)) = omega arith in
    rw (more, fails) refl

-- no line more
pub is_done : {X : Type 0} (read : ℕ → List ℕ → Result (X × List ℕ) DossierFault) (front : List X) (count index : ℕ) (bytes : List ℕ) → count ≤ index →
    with_front front (each_line read (count - index) index bytes) ≡ Ok (front, bytes)
is_done {X = X} read front count index bytes past =
    let none : count - index ≡ 0 = omega arith in
    rw none (ap (λ (xs : List X). Ok (xs, bytes)) (append-nil front))

-- ---- the next line

-- what a cursor reads is the next line, with what stands behind it
pub next-exact : (lines after : LinesLeft) (number : ℕ) (read : Option (Bor (List ℕ))) (made : Result (Bor (List ℕ)) DossierFault) → number ≡ lines.number →
    made ≡ formed number read
    → MatchOption read (lines_left.line_at lines ≡ None) (λ line. lines_left.line_at lines ≡ Some (line.now, after)) →
    Gives (λ text. (text.now, after.rest)) made (line_at lines.number lines.rest)
next-exact lines after number None made same is given = rw (is, same) (ap (formed lines.number) (line_at-none lines given))
next-exact lines after number (Some text) made same is given = rw is (ap (formed lines.number) (line_at-some lines text.now after given).0)

-- and then comes the one after it
pub next-number : (lines after : LinesLeft) (number : ℕ) (read : Option (Bor (List ℕ))) (made : Result (Bor (List ℕ)) DossierFault) → made ≡ formed number read
    → MatchOption read (lines_left.line_at lines ≡ None) (λ line. lines_left.line_at lines ≡ Some (line.now, after)) →
    OnOk made (after.number ≡ lines.number + 1)
next-number lines after number None made is given = rw is tt
next-number lines after number (Some text) made is given = rw is (line_at-some lines text.now after given).1
