-- Reading line by line: what is read, or the first fault.
use Rattle.std.specs.Prelude.{◌≡◌, ℕ, nat_le, List, Option, Some, None, Result, Ok, Err, if◌then◌else◌}
use Rattle.line_text.specs.Words.{parts_at}
use Rattle.dossier_text.specs.declared.fault.DossierFault.{DossierFault}
use Rattle.dossier_text.specs.declared.fault.DossierFault.TheVariants.{Line, TooMany, Memory}

-- first this, and then what follows from what was read; a fault ends it
infixl 10 ◌>>=◌
-- what is read first, and then what follows from it; the first fault ends the reading
abbrev pub ◌>>=◌ : {A B : Type 0} → Result A DossierFault → (A → Result B DossierFault) → Result B DossierFault
(Ok x) >>= next = next x
(Err fault) >>= next = Err fault

-- what the line says, where it has its form
abbrev pub formed : {X : Type 0} → ℕ → Option X → Result X DossierFault
formed line None = Err (Line line)
formed line (Some x) = Ok x

-- what the line says, where it does not say too many
abbrev pub limited : {X : Type 0} → ℕ → ℕ → ℕ → X → Result X DossierFault
limited line most count x = if nat_le count most then Ok x else Err (TooMany line)

-- the line, and the bytes behind its line feed (10)
abbrev pub line_at : ℕ → List ℕ → Result (List ℕ × List ℕ) DossierFault
line_at line bytes = formed line (parts_at 10 bytes)

-- Memory may come at any time; any other fault is the one that was met in reading.
abbrev pub Fails : {Y : Type 0} → DossierFault → Result Y DossierFault → Type 0
Fails (Line line) read = read ≡ Err (Line line)
Fails (TooMany line) read = read ≡ Err (TooMany line)
Fails Memory read = Unit {0}

-- what a function answered, seen by view, is what reading gives, unless memory ran out
abbrev pub Gives : {X Y : Type 0} → (X → Y) → Result X DossierFault → Result Y DossierFault → Type 0
Gives view (Ok x) read = read ≡ Ok (view x)
Gives view (Err fault) read = Fails fault read
