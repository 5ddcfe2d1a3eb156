-- What the owner knows when passes come back, and what is accounted for in the end.
use Rattle.std.proofs.Common.{◌≡◌, ℕ, suc, List, [], ◌∷◌, ◌++◌, length, refl, sym, ap, ◌∙◌, subst, ⊎_elim, append_assoc, arith}
use Rattle.std.specs.Prelude.{Contains}
use Rattle.slot_box.specs.Tasks.{TaskParts}
use Rattle.task_deck.specs.Accounts.{Takes, taken_by, AreTaken, IsAccount}
use Rattle.task_deck.specs.Decks.{DeckId, pass_view, IsPassOfDeck, stolen_by, ArePassesFrom}
use Rattle.task_deck.specs.declared.ends.DoorPass.{DoorPass}
use Rattle.task_deck.specs.declared.hand.Taken.{Taken}
use Rattle.task_deck.specs.declared.hand.Hand.{Hand}
use Rattle.task_deck.specs.inside.Dealing.{IsDealtOut}
use Rattle.task_deck.specs.inside.Hands.{with_known, with_taken}
use Rattle.task_deck.specs.inside.Returns.{known_of}
use Rattle.number_counts.proofs.Members.{among-none, among-which, among-first, among-rest}

-- what is known of a pass
abbrev pub known_pass : DoorPass → Taken
known_pass pass = record { pass = (pass_view pass).number; tasks = (pass_view pass).stolen }

known-last : (passes : List DoorPass) (pass : DoorPass) → known_of (passes ++ pass ∷ []) ≡ known_of passes ++ known_pass pass ∷ []
known-last [] pass = refl
known-last (p ∷ passes) pass = ap (λ (l : List Taken). known_pass p ∷ l) (known-last passes pass)

-- the last pass comes back
pub known-step : (passes rest : List DoorPass) (pass : DoorPass) (known new all : List Taken) → passes ≡ rest ++ pass ∷ [] → new ≡ known_pass pass ∷ known
    → known_of passes ++ known ≡ all → known_of rest ++ new ≡ all
known-step passes rest pass known new all is now were =
    ap (λ (l : List Taken). known_of rest ++ l) now ∙ sym (append_assoc (known_of rest) (known_pass pass ∷ []) known)
    ∙ ap (λ (l : List Taken). l ++ known) (sym (known-last rest pass)) ∙ ap (λ (l : List DoorPass). known_of l ++ known) (sym is) ∙ were

-- nothing else of the owner's view changes
pub view-step : (initial old new u : Hand) → old ≡ record initial { known = old.known } → new ≡ with_known old u → new ≡ record initial { known = new.known }
view-step initial old new u was now =
    now ∙ ap (λ (h : Hand). record h { known = (record { pass = u.number; tasks = u.taken }) ∷ old.known }) was
    ∙ ap (λ (k : List Taken). record initial { known = k }) (sym (ap (λ (h : Hand). h.known) now))

-- passes of a deck are of it
pub pass-of : (deck : DeckId) (number : ℕ) (passes : List DoorPass) → ArePassesFrom deck number passes → (pass : DoorPass) → Contains passes pass
    → IsPassOfDeck deck pass
pass-of deck number [] are pass among = absurd (among-none pass among)
pass-of deck number (p ∷ passes) are pass among = ⊎_elim
    (λ (is : pass ≡ p). subst (IsPassOfDeck deck) (sym is) are.0)
    (λ more. pass-of deck (suc number) passes are.2 pass more)
    (among-which p passes pass among)

-- each pass took what it is known to have taken
taken-from : (deck : DeckId) (takes : Takes) (number : ℕ) (passes : List DoorPass) → ArePassesFrom deck number passes
    → ((taken : Taken) → Contains (known_of passes) taken → taken.tasks ≡ taken_by (suc taken.pass) takes) → AreTaken takes number (stolen_by passes)
taken-from deck takes number [] are known = tt
taken-from deck takes number (p ∷ passes) are known = (
  known (known_pass p) (among-first (known_pass p) (known_of passes)) ∙ ap (λ (n : ℕ). taken_by (suc n) takes) are.1,
  taken-from deck takes (suc number) passes are.2 (λ taken among. known taken (among-rest (known_pass p) (known_of passes) taken among)),
)

stolen-length : (passes : List DoorPass) → length (stolen_by passes) ≡ length passes
stolen-length [] = refl
stolen-length (p ∷ passes) = ap suc (stolen-length passes)

pub account-of : (deck : DeckId) (v end : Hand) (passes : List DoorPass) (left : List TaskParts)
    → end ≡ with_taken (record v { known = known_of passes }) left → IsDealtOut end
    → ArePassesFrom deck 0 passes → length passes ≡ v.passes → IsAccount v.pushed v.taken (stolen_by passes) left
account-of deck v end passes left is out are all = let dealt = subst IsDealtOut is out in record {
  takes = dealt.takes;
  pushed_all = dealt.pushed;
  owner = dealt.taken;
  passes = taken-from deck dealt.takes 0 passes are dealt.known;
  no_other = λ who lt. let long = stolen-length passes in dealt.no_other who (omega arith);
}
