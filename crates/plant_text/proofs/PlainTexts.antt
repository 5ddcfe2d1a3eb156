-- Texts of plain values are UTF-8.
use Rattle.std.proofs.Common.{◌≡◌, ℕ, pos, negsuc, true, false, List, [], ◌∷◌, ◌++◌, IsTrue, refl, arith, lt-ltb}
use Rattle.std.proofs.lemmas.Bool.{and_parts, and_from}
use Rattle.std.proofs.lemmas.Str.{IsUtf8-append, IsUtf8-nil, IsUtf8-from_ascii}
use Rattle.std.proofs.lemmas.Fmt.{IsAscii-decimal, IsAscii-signed}
use Rattle.std.specs.Str.{IsUtf8}
use Rattle.std.specs.List.{AllByRecursion, list_all}
use Rattle.json.proofs.Printed.Utf8.{are_ascii, IsUtf8-are_ascii}
use Rattle.serde_json.specs.Data.{Num, unsigned, negative, float, Data, null, boolean, number, string, array, object, Items, no_items, item, Members, no_members, member}
use Rattle.serde_json.specs.Written.{number_text}
use Rattle.line_text.specs.Name.{is_name_byte, is_name}
use Rattle.plant_text.specs.Canonical.{behind_commas, with_commas, quoted, member_text}
use Rattle.plant_text.proofs.PlainValues.{IsSmallNumber, IsPlain, ArePlain, MembersArePlain, text_of, item_texts, member_texts, name_byte}

ascii-bytes : (s : List ℕ) → list_all is_name_byte s ≡ true → are_ascii s ≡ true
ascii-bytes [] e = refl
ascii-bytes (x ∷ s) e =
    let p = and_parts _ _ e in
    let b = name_byte x p.0 in
    and_from _ _ (lt-ltb x 128 (omega arith)) (ascii-bytes s p.1)

IsUtf8-name : (s : List ℕ) → IsTrue (is_name s) → IsUtf8 s
IsUtf8-name s e = IsUtf8-are_ascii s (ascii-bytes s (and_parts _ _ e).1)

IsUtf8-between : (before text after : List ℕ) → are_ascii before ≡ true → IsUtf8 text → are_ascii after ≡ true → IsUtf8 ((before ++ text) ++ after)
IsUtf8-between before text after b t a =
    IsUtf8-append (before ++ text) after (IsUtf8-append before text (IsUtf8-are_ascii before b) t) (IsUtf8-are_ascii after a)

IsUtf8-quoted : (s : List ℕ) → IsTrue (is_name s) → IsUtf8 (quoted s)
IsUtf8-quoted s e = IsUtf8-between (34 ∷ []) s (34 ∷ []) refl (IsUtf8-name s e) refl

IsUtf8-behind_commas : (texts : List (List ℕ)) → AllByRecursion IsUtf8 texts → IsUtf8 (behind_commas texts)
IsUtf8-behind_commas [] h = IsUtf8-nil
IsUtf8-behind_commas (text ∷ texts) h =
    IsUtf8-append (44 ∷ text) (behind_commas texts) (IsUtf8-append (44 ∷ []) text (IsUtf8-are_ascii (44 ∷ []) refl) h.0) (IsUtf8-behind_commas texts h.1)

IsUtf8-with_commas : (texts : List (List ℕ)) → AllByRecursion IsUtf8 texts → IsUtf8 (with_commas texts)
IsUtf8-with_commas [] h = IsUtf8-nil
IsUtf8-with_commas (text ∷ texts) h = IsUtf8-append text (behind_commas texts) h.0 (IsUtf8-behind_commas texts h.1)

IsUtf8-number : (n : Num) → IsSmallNumber n → IsUtf8 (number_text n)
IsUtf8-number (unsigned n) h = IsUtf8-from_ascii _ (IsAscii-decimal n (omega arith))
IsUtf8-number (negative (pos n)) h = absurd h
IsUtf8-number (negative (negsuc n)) h = IsUtf8-from_ascii _ (IsAscii-signed (negsuc n) h)
IsUtf8-number (float x) h = absurd h

mutual
  unfolding member_text

  pub IsUtf8-plain : (d : Data) → IsPlain d → IsUtf8 (text_of d)
  IsUtf8-plain null h = absurd h
  IsUtf8-plain (boolean true) h = IsUtf8-are_ascii _ refl
  IsUtf8-plain (boolean false) h = IsUtf8-are_ascii _ refl
  IsUtf8-plain (number n) h = IsUtf8-number n h
  IsUtf8-plain (string s) h = IsUtf8-quoted s h
  IsUtf8-plain (array ds) h = IsUtf8-between (91 ∷ []) (with_commas (item_texts ds)) (93 ∷ []) refl (IsUtf8-with_commas (item_texts ds) (all_items ds h)) refl
  IsUtf8-plain (object ms) h =
      IsUtf8-between (123 ∷ []) (with_commas (member_texts ms)) (125 ∷ []) refl (IsUtf8-with_commas (member_texts ms) (all_members ms h)) refl

  all_items : (ds : Items) → ArePlain ds → AllByRecursion IsUtf8 (item_texts ds)
  all_items no_items h = tt
  all_items (item d ds) h = (IsUtf8-plain d h.0, all_items ds h.1)

  all_members : (ms : Members) → MembersArePlain ms → AllByRecursion IsUtf8 (member_texts ms)
  all_members no_members h = tt
  all_members (member k d ms) h = (
    IsUtf8-append (quoted k) (58 ∷ text_of d) (IsUtf8-quoted k h.0)
        (IsUtf8-append (58 ∷ []) (text_of d) (IsUtf8-are_ascii (58 ∷ []) refl) (IsUtf8-plain d h.1)),
    all_members ms h.2,
  )

-- with a line feed behind it
pub IsUtf8-line : (d : Data) → IsPlain d → IsUtf8 (text_of d ++ 10 ∷ [])
IsUtf8-line d h = IsUtf8-append (text_of d) (10 ∷ []) (IsUtf8-plain d h) (IsUtf8-are_ascii (10 ∷ []) refl)
