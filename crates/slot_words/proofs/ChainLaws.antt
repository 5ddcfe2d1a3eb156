-- Words that are equivalent: chains of swaps joined, turned round and behind other operations, and what they keep.
use Rattle.std.proofs.Common.{◌≡◌, true, List, ◌∷◌, ◌++◌, refl, sym, ap, subst, ◌∙◌, append_assoc}
use Rattle.std.specs.List.Sorted.{IsPermutation}
use Rattle.std.proofs.lemmas.List.Sorted.{IsPermutation-refl, IsPermutation-trans}
use Rattle.plant_model.specs.declared.parts.Parts.{Parts}
use Rattle.plant_model.specs.Relations.{independent_of}
use Rattle.plant_model.specs.Sound.{SoundPlant}
use Rattle.plant_model.proofs.RelationLaws.{independent_of-symmetric}
use Rattle.replay_core.specs.declared.timed.Timed.{Timed}
use Rattle.slot_words.specs.Swaps.{IsSwap, AreEquivalent, MeansTheSame}
use Rattle.slot_words.specs.Swaps.AreEquivalent.{itself, swapped}
use Rattle.slot_words.proofs.SwapLaws.{swap_keeps, swapped-entries}

-- ---- chains

pub one_swap : (parts : Parts) (front back : List Timed) (s t : Timed) → independent_of parts s.op t.op ≡ true →
    AreEquivalent parts (front ++ s ∷ t ∷ back) (front ++ t ∷ s ∷ back)
one_swap parts front back s t independent =
    swapped (front ++ s ∷ t ∷ back) (front ++ t ∷ s ∷ back) (front ++ t ∷ s ∷ back) (front, back, s, t, refl, refl, independent)
    (itself (front ++ t ∷ s ∷ back))

pub joined : (parts : Parts) (word next last : List Timed) → AreEquivalent parts word next → AreEquivalent parts next last → AreEquivalent parts word last
joined parts word next last (itself first) second = second
joined parts word next last (swapped first middle end swap rest) second = swapped first middle last swap (joined parts middle end last rest second)

swap_back : (parts : Parts) (word other : List Timed) → IsSwap parts word other → IsSwap parts other word
swap_back parts word other (front, back, s, t, is, other_is, independent) =
    (front, back, t, s, other_is, is, sym (independent_of-symmetric parts s.op t.op) ∙ independent)

pub turned_round : (parts : Parts) (word other : List Timed) → AreEquivalent parts word other → AreEquivalent parts other word
turned_round parts word other (itself first) = itself first
turned_round parts word other (swapped first next last swap rest) =
    joined parts last next first (turned_round parts next last rest) (swapped next first first (swap_back parts first next swap) (itself first))

swap_behind : (parts : Parts) (held word other : List Timed) → IsSwap parts word other → IsSwap parts (held ++ word) (held ++ other)
swap_behind parts held word other (front, back, s, t, is, other_is, independent) = (
  held ++ front,
  back,
  s,
  t,
  ap (λ (later : List Timed). held ++ later) is ∙ sym (append_assoc held front (s ∷ t ∷ back)),
  ap (λ (later : List Timed). held ++ later) other_is ∙ sym (append_assoc held front (t ∷ s ∷ back)),
  independent,
)

pub behind : (parts : Parts) (held word other : List Timed) → AreEquivalent parts word other → AreEquivalent parts (held ++ word) (held ++ other)
behind parts held word other (itself first) = itself (held ++ first)
behind parts held word other (swapped first next last swap rest) =
    swapped (held ++ first) (held ++ next) (held ++ last) (swap_behind parts held first next swap) (behind parts held next last rest)

-- ---- what they keep

means_itself : (parts : Parts) (word : List Timed) → MeansTheSame parts word word
means_itself parts word = record { legal = λ legal. legal; can_run = λ run. run; held = λ run. refl; margin = λ run. refl }

then_means : (parts : Parts) (word next last : List Timed) → MeansTheSame parts word next → MeansTheSame parts next last → MeansTheSame parts word last
then_means parts word next last first second = record {
  legal = λ legal. second.legal (first.legal legal);
  can_run = λ run. second.can_run (first.can_run run);
  held = λ run. second.held (first.can_run run) ∙ first.held run;
  margin = λ run. second.margin (first.can_run run) ∙ first.margin run;
}

swap_means : (parts : Parts) (word other : List Timed) → SoundPlant parts → IsSwap parts word other → MeansTheSame parts word other
swap_means parts word other sound (front, back, s, t, is, other_is, independent) =
    let here = swap_keeps parts front back s t sound independent in
    subst (λ (last : List Timed). MeansTheSame parts word last) (sym other_is)
    (subst (λ (first : List Timed). MeansTheSame parts first (front ++ t ∷ s ∷ back)) (sym is) here)

pub equivalent_mean_the_same : (parts : Parts) (word other : List Timed) → SoundPlant parts → AreEquivalent parts word other → MeansTheSame parts word other
equivalent_mean_the_same parts word other sound (itself first) = means_itself parts first
equivalent_mean_the_same parts word other sound (swapped first next last swap rest) =
    then_means parts first next last (swap_means parts first next sound swap) (equivalent_mean_the_same parts next last sound rest)

swap_entries : (parts : Parts) (word other : List Timed) → IsSwap parts word other → IsPermutation word other
swap_entries parts word other (front, back, s, t, is, other_is, independent) =
    subst (λ (last : List Timed). IsPermutation word last) (sym other_is)
    (subst (λ (first : List Timed). IsPermutation first (front ++ t ∷ s ∷ back)) (sym is) (swapped-entries front back s t))

pub same_entries : (parts : Parts) (word other : List Timed) → AreEquivalent parts word other → IsPermutation word other
same_entries parts word other (itself first) = IsPermutation-refl first
same_entries parts word other (swapped first next last swap rest) =
    IsPermutation-trans first next last (swap_entries parts first next swap) (same_entries parts next last rest)

swap_ahead : (parts : Parts) (word other back : List Timed) → IsSwap parts word other → IsSwap parts (word ++ back) (other ++ back)
swap_ahead parts word other back (front, later, s, t, is, other_is, independent) = (
  front,
  later ++ back,
  s,
  t,
  ap (λ (first : List Timed). first ++ back) is ∙ append_assoc front (s ∷ t ∷ later) back,
  ap (λ (first : List Timed). first ++ back) other_is ∙ append_assoc front (t ∷ s ∷ later) back,
  independent,
)

pub ahead : (parts : Parts) (word other back : List Timed) → AreEquivalent parts word other → AreEquivalent parts (word ++ back) (other ++ back)
ahead parts word other back (itself first) = itself (first ++ back)
ahead parts word other back (swapped first next last swap rest) =
    swapped (first ++ back) (next ++ back) (last ++ back) (swap_ahead parts first next back swap) (ahead parts next last back rest)
