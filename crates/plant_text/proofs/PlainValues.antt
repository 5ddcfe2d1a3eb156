-- JSON values of names, whole numbers, true and false, in lists and objects: their texts, and what these are read as.
use Rattle.std.proofs.Common.{◌≡◌, ℕ, ◌^◌, ◌<◌, ◌≤◌, pos, negsuc, true, false, List, [], ◌∷◌, ◌++◌, IsTrue, Some, option_map, refl, sym, ap, ap₂, ◌∙◌, arith, append_assoc}
use Rattle.std.proofs.lemmas.Bool.{and_parts}
use Rattle.std.proofs.lemmas.Bool.Decides.{nat_tests}
use Rattle.std.specs.Prelude.{⊤}
use Rattle.std.specs.List.{list_all}
use Rattle.json.specs.Print.{IsNumber, escape}
use Rattle.json.specs.Tree.{HasNumbers, ItemsHaveNumbers, MembersHaveNumbers}
use Rattle.json.proofs.Printed.Strings.{escape_byte_plain}
use Rattle.json.proofs.Printed.Decimals.{IsNumber-decimal, IsNumber-signed_decimal}
use Rattle.serde_json.specs.Data.{Num, unsigned, negative, float, Data, null, boolean, number, string, array, object, Items, no_items, item, Members, no_members, member, put}
use Rattle.serde_json.specs.Read.{number_of, of_json, of_items, of_members}
use Rattle.serde_json.specs.Written.{number_text, outline, items_outline, members_outline, compact_text, items_text, members_text}
use Rattle.serde_json.proofs.Numbers.{number_of-decimal, number_of-negative}
use Rattle.line_text.specs.Name.{is_name_byte, is_name}
use Rattle.plant_text.specs.Canonical.{behind_commas, with_commas, list_text, object_text, quoted, member_text, flag_text}

-- ---- plain values

-- a whole number of less than 2 ^ 63
abbrev pub IsSmallNumber : Num → Type 0
IsSmallNumber (unsigned n) = n < 2 ^ 63
IsSmallNumber (negative (pos n)) = ⊥
IsSmallNumber (negative (negsuc n)) = n < 2 ^ 63
IsSmallNumber (float x) = ⊥

abbrev mutual
  -- its texts and keys are names, its numbers small whole numbers, and nothing in it is null
  pub IsPlain : Data → Type 0
  IsPlain null = ⊥
  IsPlain (boolean b) = ⊤
  IsPlain (number n) = IsSmallNumber n
  IsPlain (string s) = IsTrue (is_name s)
  IsPlain (array ds) = ArePlain ds
  IsPlain (object ms) = MembersArePlain ms

  pub ArePlain : Items → Type 0
  ArePlain no_items = ⊤
  ArePlain (item d ds) = IsPlain d × ArePlain ds

  pub MembersArePlain : Members → Type 0
  MembersArePlain no_members = ⊤
  MembersArePlain (member k d ms) = IsTrue (is_name k) × IsPlain d × MembersArePlain ms

-- ---- their texts

abbrev mutual
  pub text_of : Data → List ℕ
  text_of null = []
  text_of (boolean b) = flag_text b
  text_of (number n) = number_text n
  text_of (string s) = quoted s
  text_of (array ds) = list_text (item_texts ds)
  text_of (object ms) = object_text (member_texts ms)

  pub item_texts : Items → List (List ℕ)
  item_texts no_items = []
  item_texts (item d ds) = text_of d ∷ item_texts ds

  pub member_texts : Members → List (List ℕ)
  member_texts no_members = []
  member_texts (member k d ms) = member_text k (text_of d) ∷ member_texts ms

pub name_byte : (x : ℕ) → is_name_byte x ≡ true → (45 ≤ x) × (x ≤ 122) × (x ≡ 92 → ⊥)
name_byte x e = (grind (arith, nat_tests), grind (arith, nat_tests), λ is. grind (arith, nat_tests))

escape-bytes : (s : List ℕ) → list_all is_name_byte s ≡ true → escape s ≡ s
escape-bytes [] e = refl
escape-bytes (x ∷ s) e =
    let p = and_parts _ _ e in
    let b = name_byte x p.0 in
    ap₂ (λ (a c : List ℕ). a ++ c) (escape_byte_plain x (λ is. omega arith) b.2 (omega arith)) (escape-bytes s p.1)

-- a name has no byte that JSON writes in another way
pub escape-name : (s : List ℕ) → IsTrue (is_name s) → escape s ≡ s
escape-name s e = escape-bytes s (and_parts _ _ e).1

-- the text of a member, with what follows it
one_member : (k value told rest written : List ℕ) → IsTrue (is_name k) → value ≡ told → rest ≡ written
    → (34 ∷ (escape k ++ 34 ∷ [])) ++ 58 ∷ (value ++ rest) ≡ member_text k told ++ written
unfolding member_text
one_member k value told rest written name same follows =
    rw (escape-name k name, same, follows) (sym (append_assoc (quoted k) (58 ∷ told) written))

mutual
  pub compact-plain : (d : Data) → IsPlain d → compact_text d ≡ text_of d
  compact-plain null h = absurd h
  compact-plain (boolean true) h = refl
  compact-plain (boolean false) h = refl
  compact-plain (number n) h = refl
  compact-plain (string s) h = ap quoted (escape-name s h)
  compact-plain (array ds) h = ap (λ l. 91 ∷ l) (first_items ds h)
  compact-plain (object ms) h = ap (λ l. 123 ∷ l) (first_members ms h)

  first_items : (ds : Items) → ArePlain ds → items_text false ds ≡ with_commas (item_texts ds) ++ 93 ∷ []
  first_items no_items h = refl
  first_items (item d ds) h =
      ap₂ (λ (a b : List ℕ). a ++ b) (compact-plain d h.0) (later_items ds h.1) ∙ sym (append_assoc (text_of d) _ _)

  later_items : (ds : Items) → ArePlain ds → items_text true ds ≡ behind_commas (item_texts ds) ++ 93 ∷ []
  later_items no_items h = refl
  later_items (item d ds) h =
      ap₂ (λ (a b : List ℕ). 44 ∷ (a ++ b)) (compact-plain d h.0) (later_items ds h.1) ∙ ap (λ l. 44 ∷ l) (sym (append_assoc (text_of d) _ _))

  first_members : (ms : Members) → MembersArePlain ms → members_text false ms ≡ with_commas (member_texts ms) ++ 125 ∷ []
  first_members no_members h = refl
  first_members (member k d ms) h =
      one_member k _ _ _ _ h.0 (compact-plain d h.1) (later_members ms h.2)
      ∙ sym (append_assoc (member_text k (text_of d)) (behind_commas (member_texts ms)) (125 ∷ []))

  later_members : (ms : Members) → MembersArePlain ms → members_text true ms ≡ behind_commas (member_texts ms) ++ 125 ∷ []
  later_members no_members h = refl
  later_members (member k d ms) h =
      ap (λ l. 44 ∷ l) (one_member k _ _ _ _ h.0 (compact-plain d h.1) (later_members ms h.2)
      ∙ sym (append_assoc (member_text k (text_of d)) (behind_commas (member_texts ms)) (125 ∷ [])))

-- ---- which tokens they are

number_is : (n : Num) → IsSmallNumber n → IsNumber (number_text n)
number_is (unsigned n) h = IsNumber-decimal n (omega arith)
number_is (negative (pos n)) h = absurd h
number_is (negative (negsuc n)) h = IsNumber-signed_decimal (negsuc n) h
number_is (float x) h = absurd h

mutual
  pub HasNumbers-outline : (d : Data) → IsPlain d → HasNumbers (outline d)
  HasNumbers-outline null h = absurd h
  HasNumbers-outline (boolean b) h = tt
  HasNumbers-outline (number n) h = number_is n h
  HasNumbers-outline (string s) h = tt
  HasNumbers-outline (array ds) h = items_have ds h
  HasNumbers-outline (object ms) h = members_have ms h

  items_have : (ds : Items) → ArePlain ds → ItemsHaveNumbers (items_outline ds)
  items_have no_items h = tt
  items_have (item d ds) h = (HasNumbers-outline d h.0, items_have ds h.1)

  members_have : (ms : Members) → MembersArePlain ms → MembersHaveNumbers (members_outline ms)
  members_have no_members h = tt
  members_have (member k d ms) h = (HasNumbers-outline d h.1, members_have ms h.2)

-- ---- what they are read as: the same, the members of each object in the order of their keys

abbrev mutual
  pub sorted : Data → Data
  sorted null = null
  sorted (boolean b) = boolean b
  sorted (number n) = number n
  sorted (string s) = string s
  sorted (array ds) = array (sorted_items ds)
  sorted (object ms) = object (sorted_members ms no_members)

  pub sorted_items : Items → Items
  sorted_items no_items = no_items
  sorted_items (item d ds) = item (sorted d) (sorted_items ds)

  -- put among those that stand there already
  pub sorted_members : Members → Members → Members
  sorted_members no_members found = found
  sorted_members (member k d ms) found = sorted_members ms (put k (sorted d) found)

number_read : (n : Num) → IsSmallNumber n → number_of (number_text n) ≡ Some n
number_read (unsigned n) h = number_of-decimal n (omega arith)
number_read (negative (pos n)) h = absurd h
number_read (negative (negsuc n)) h = number_of-negative n h
number_read (float x) h = absurd h

mutual
  pub of_json-outline : (d : Data) → IsPlain d → of_json (outline d) ≡ Some (sorted d)
  of_json-outline null h = absurd h
  of_json-outline (boolean b) h = refl
  of_json-outline (number n) h = ap (option_map number) (number_read n h)
  of_json-outline (string s) h = refl
  of_json-outline (array ds) h = ap (option_map array) (items_read ds h)
  of_json-outline (object ms) h = ap (option_map object) (members_read ms no_members h)

  items_read : (ds : Items) → ArePlain ds → of_items (items_outline ds) ≡ Some (sorted_items ds)
  items_read no_items h = refl
  items_read (item d ds) h = rw (of_json-outline d h.0, items_read ds h.1) refl

  members_read : (ms found : Members) → MembersArePlain ms → of_members (members_outline ms) found ≡ Some (sorted_members ms found)
  members_read no_members found h = refl
  members_read (member k d ms) found h = rw (of_json-outline d h.1) (members_read ms (put k (sorted d) found) h.2)
