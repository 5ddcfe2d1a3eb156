-- Each word has a normal form: its operations take their seats one after the other.
use Rattle.std.proofs.Common.{◌≡◌, ℕ, ◌+◌, ◌<◌, Bool, true, false, ◌||◌, eqb, List, [], ◌∷◌, ◌++◌, take, get_or, length, refl, sym, ap, subst, ◌∙◌, append_assoc}
use Rattle.std.specs.Prelude.{fold}
use Rattle.std.specs.List.{filter, insert}
use Rattle.std.proofs.lemmas.List.{append-nil, take_more}
use Rattle.std.proofs.lemmas.List.Sums.{fold-append}
use Rattle.std.proofs.lemmas.List.Elements.{All-head, All-tail, All-nil, All-push, All-take}
use Rattle.std.proofs.lemmas.List.Sorted.{All-permutation}
use Rattle.plant_model.specs.declared.parts.Parts.{Parts}
use Rattle.plant_model.specs.Parts.{op_count_of}
use Rattle.replay_core.specs.declared.timed.Timed.{Timed}
use Rattle.slot_automaton.proofs.WordLemmas.{empty_is_normal}
use Rattle.overlap_graph.specs.Independence.{independence_of}
use Rattle.slot_words.specs.Swaps.{AreEquivalent}
use Rattle.slot_words.specs.Swaps.AreEquivalent.{itself}
use Rattle.slot_words.proofs.ChainLaws.{joined, turned_round, ahead, same_entries}
use Rattle.slot_words.proofs.WordLaws.{filter-same}
use Rattle.normal_order.specs.NormalWords.{AreKnown, IsNormalWord, is_op, IsNormalForm}
use Rattle.normal_order.specs.Laws.{WordsHaveNormalForms, NormalWordsAreLeast}
use Rattle.normal_order.specs.inside.Seats.{seat_of, seated}
use Rattle.normal_order.proofs.SeatLaws.{seated_at, seated_chain, seated_normal}
use Rattle.normal_order.proofs.LeastLaws.{is_either, turns_kept, never_alone, normal_comes_first}

-- each operation takes its seat
abbrev pub with_seated : Parts → List Timed → Timed → List Timed
with_seated parts done t = seated parts t done

abbrev pub all_seated : Parts → List Timed → List Timed
all_seated parts word = fold (with_seated parts) [] word

-- ---- what has its seats so far, and what is to come

seated_known : (parts : Parts) (done : List Timed) (t : Timed) → AreKnown parts done → t.op < op_count_of parts → AreKnown parts (seated parts t done)
seated_known parts done t known here =
    All-permutation (λ (r : Timed). r.op < op_count_of parts) (done ++ t ∷ []) (seated parts t done)
    (same_entries parts (done ++ t ∷ []) (seated parts t done) (seated_chain parts t done))
    (All-push (λ (r : Timed). r.op < op_count_of parts) done t known here)

seats_chain : (parts : Parts) (done word : List Timed) → AreEquivalent parts (done ++ word) (fold (with_seated parts) done word)
seats_chain parts done [] = subst (λ (first : List Timed). AreEquivalent parts first done) (sym (append-nil done)) (itself done)
seats_chain parts done (t ∷ word) =
    let first = ahead parts (done ++ t ∷ []) (seated parts t done) word (seated_chain parts t done) in
    joined parts (done ++ t ∷ word) (seated parts t done ++ word) (fold (with_seated parts) (seated parts t done) word)
    (subst (λ (whole : List Timed). AreEquivalent parts whole (seated parts t done ++ word)) (append_assoc done (t ∷ []) word) first)
    (seats_chain parts (seated parts t done) word)

seats_normal : (parts : Parts) (done word : List Timed) → AreKnown parts done → AreKnown parts word → IsNormalWord parts done →
    IsNormalWord parts (fold (with_seated parts) done word)
seats_normal parts done [] known each normal = normal
seats_normal parts done (t ∷ word) known each normal =
    let here = All-head (λ (r : Timed). r.op < op_count_of parts) t word each in
    seats_normal parts (seated parts t done) word (seated_known parts done t known here) (All-tail (λ (r : Timed). r.op < op_count_of parts) t word each)
    (seated_normal parts t done here known normal)

-- ---- the normal form

same_or : (b : Bool) → (b || b) ≡ b
same_or true = refl
same_or false = refl

turn_of_one : (v : ℕ) (word : List Timed) → filter (is_either v v) word ≡ filter (is_op v) word
turn_of_one v word = filter-same (is_either v v) (is_op v) word (λ (t : Timed). same_or (eqb t.op v))

pub all_seated_is_normal_form : (parts : Parts) (word : List Timed) → AreKnown parts word → IsNormalForm parts word (all_seated parts word)
all_seated_is_normal_form parts word known =
    let form = all_seated parts word in
    let chain = seats_chain parts [] word in
    let normal = seats_normal parts [] word (All-nil (λ (r : Timed). r.op < op_count_of parts)) known (empty_is_normal (independence_of parts)) in
    let form_known = All-permutation (λ (r : Timed). r.op < op_count_of parts) word form (same_entries parts word form chain) known in
    record {
      equivalent = chain;
      normal = normal;
      least = λ other to_other.
          normal_comes_first parts form other form_known normal (joined parts form word other (turned_round parts word form chain) to_other);
      in_turn = λ v. sym (turn_of_one v form) ∙ sym (turns_kept parts word form chain v v (never_alone parts v)) ∙ turn_of_one v word;
    }

pub words_have_normal_forms : (parts : Parts) → WordsHaveNormalForms parts
words_have_normal_forms parts word known = (all_seated parts word, all_seated_is_normal_form parts word known)

pub normal_words_are_least : (parts : Parts) → NormalWordsAreLeast parts
normal_words_are_least parts normal other known is_normal chain = normal_comes_first parts normal other known is_normal chain

-- ---- turn by turn

known_seats : (parts : Parts) (done word : List Timed) → AreKnown parts done → AreKnown parts word → AreKnown parts (fold (with_seated parts) done word)
known_seats parts done [] known each = known
known_seats parts done (t ∷ word) known each =
    known_seats parts (seated parts t done) word (seated_known parts done t known (All-head (λ (r : Timed). r.op < op_count_of parts) t word each))
    (All-tail (λ (r : Timed). r.op < op_count_of parts) t word each)

pub all_seated-known : (parts : Parts) (word : List Timed) (k : ℕ) → AreKnown parts word → AreKnown parts (all_seated parts (take k word))
all_seated-known parts word k each =
    known_seats parts [] (take k word) (All-nil (λ (r : Timed). r.op < op_count_of parts)) (All-take (λ (r : Timed). r.op < op_count_of parts) k word each)

pub all_seated-more : (parts : Parts) (word : List Timed) (k : ℕ) (d : Timed) → k < length word →
    all_seated parts (take (k + 1) word) ≡ insert (all_seated parts (take k word)) (seat_of parts (get_or word k d).op (all_seated parts (take k word)))
    (get_or word k d)
all_seated-more parts word k d within =
    ap (all_seated parts) (take_more word k d within) ∙ fold-append (with_seated parts) [] (take k word) (get_or word k d ∷ [])
    ∙ seated_at parts (get_or word k d) (all_seated parts (take k word))
