-- Reading words one after the other, of which no more than so many are kept.
use Rattle.std.proofs.Common.{◌≡◌, ℕ, ◌<◌, ◌≤◌, Bool, true, false, List, [], ◌∷◌, ◌++◌, length, Option, Some, None, Result, Ok, Err, refl, sym, ap, arith, append_assoc, length-append}
use Rattle.std.proofs.lemmas.Bool.{le-leb, lt-leb}
use Rattle.std.proofs.lemmas.List.{append-nil}
use Rattle.line_text.specs.Reading.{◌>>=◌}
use Rattle.dossier_text.specs.declared.fault.DossierFault.{DossierFault}
use Rattle.dossier_text.specs.declared.fault.DossierFault.TheVariants.{Line, TooMany}
use Rattle.dossier_text.specs.Faults.{formed, limited}
use Rattle.dossier_text.specs.Faults as faults
use Rattle.dossier_text.specs.inside.TermReading.{each_word, few_words}

-- what the words that are left make of what was kept
abbrev pub with_kept : {X : Type 0} → ℕ → ℕ → List X → Bool → Option (List X) → Result (List X) DossierFault
with_kept line most kept more None = Err (Line line)
with_kept line most kept true (Some xs) = Err (TooMany line)
with_kept line most kept false (Some xs) = limited line most (length (kept ++ xs)) (kept ++ xs)

-- at first nothing is kept
nothing_kept_of : {X : Type 0} (line most : ℕ) (read : Option (List X)) → with_kept line most [] false read
    ≡ faults.◌>>=◌ (formed line read) (λ xs. limited line most (length xs) xs)
nothing_kept_of line most None = refl
nothing_kept_of line most (Some xs) = refl

pub nothing_kept : {X : Type 0} (read : List ℕ → Option X) (line most : ℕ) (words : List (List ℕ)) → with_kept line most [] false (each_word read words)
    ≡ few_words read line most words
nothing_kept read line most words = nothing_kept_of line most (each_word read words)

-- where there is room, one more is kept
pub one_more_kept : {X : Type 0} (line most : ℕ) (kept : List X) (more : Bool) (x : X) (read : Option (List X)) →
    with_kept line most kept more (read >>= λ others. Some (x ∷ others)) ≡ with_kept line most (kept ++ x ∷ []) more read
one_more_kept line most kept more x None = refl
one_more_kept line most kept true x (Some xs) = refl
one_more_kept line most kept false x (Some xs) = ap (λ ys. limited line most (length ys) ys) (sym (append_assoc kept (x ∷ []) xs))

-- where there is none, there are too many
pub no_more_kept : {X : Type 0} (line most : ℕ) (kept : List X) (more : Bool) (x : X) (read : Option (List X)) → most ≤ length kept →
    with_kept line most kept more (read >>= λ others. Some (x ∷ others)) ≡ with_kept line most kept true read
no_more_kept line most kept more x None full = refl
no_more_kept line most kept true x (Some xs) full = refl
no_more_kept line most kept false x (Some xs) full =
    let longer : most < length (kept ++ x ∷ xs) = omega (arith, length-append kept (x ∷ xs)) in
    rw (lt-leb (length (kept ++ x ∷ xs)) most longer) refl

-- what was kept is all
pub all_kept : {X : Type 0} (line most : ℕ) (kept : List X) → length kept ≤ most → with_kept line most kept false (Some []) ≡ Ok kept
all_kept line most kept within = rw (append-nil kept, le-leb (length kept) most within) refl
