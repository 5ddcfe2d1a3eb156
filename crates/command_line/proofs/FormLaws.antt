-- The tests of a line, and the lines that pass them.
use Rattle.std.proofs.Common.{◌≡◌, ℕ, ◌+◌, ◌<◌, ◌≤◌, ◌^◌, Bool, true, false, cond, leb, eqb, List, [], ◌∷◌, length, Option, Some, None, refl}
use Rattle.std.proofs.Common.{subst, ◌∙◌, arith, inl, inr}
use Rattle.std.specs.Prelude.{◌&&◌, ◌||◌, IsTrue, codes, decimal}
use Rattle.std.specs.Option.{option_map_or}
use Rattle.std.proofs.lemmas.Bool.{and_parts, or_cases, leb-true, eqb-true}
use Rattle.std.proofs.lemmas.Option.{same_Some}
use Rattle.std.proofs.lemmas.Slice.Eq.{bytes_eq-Decides}
use Rattle.limits.specs.declared.TheConstants.{MOST_HORIZON, MOST_NODES, MOST_SLOTS, MOST_WORKERS}
use Rattle.line_text.specs.Decimal.{decimal_of}
use Rattle.line_text.proofs.DecimalLaws.{decimal_of-some}
use Rattle.command_line.specs.declared.TheConstants.{MOST_NUMBER}
use Rattle.command_line.specs.declared.command.Command.TheVariants.{Solve, Check, Replay, Show, Make, Root, Replan, Recheck}
use Rattle.command_line.specs.declared.form.Form.{Form}
use Rattle.command_line.specs.declared.form.Form.TheVariants as form
use Rattle.command_line.specs.PlainLine.{is_file_word}
use Rattle.command_line.specs.inside.Forms.{word_at, is_word, is_file, is_number, is_option, is_among_three, is_solve, is_check, is_replay, is_show, is_make}
use Rattle.command_line.specs.inside.Forms.{is_make_and_solve, is_root, is_replan, is_recheck, form_among, HasForm}
use Rattle.command_line.proofs.OrderLaws.{Text, Stands, all_none, all_one, differ, in_some_order}

-- ---- one test

word_is : (place : ℕ) (text : Text) (words : List Text) → is_word place text words ≡ true → word_at place words ≡ text
unfolding is_word
word_is place text words holds = (bytes_eq-Decides (word_at place words) text).0 holds

file_is : (place : ℕ) (words : List Text) → is_file place words ≡ true → IsTrue (is_file_word (word_at place words))
unfolding is_file
file_is place words holds = holds

-- a number in range stands at a place
record HasNumber (place least most : ℕ) (words : List Text) : Type 0 where
  number : ℕ
  word : word_at place words ≡ decimal number
  low : least ≤ number
  high : number ≤ most

number_is : (place least most : ℕ) (words : List Text) → most < 2 ^ 64 → is_number place least most words ≡ true → HasNumber place least most words
unfolding is_number
number_is place least most words small holds = go (decimal_of most (word_at place words)) refl holds
  where
    go : (read : Option ℕ) → decimal_of most (word_at place words) ≡ read → option_map_or (leb least) read false ≡ true → HasNumber place least most words
    go None is none = absurd cc
    go (Some n) is low =
        let found = decimal_of-some most (word_at place words) n is small in
        record { number = n; word = found.0; low = leb-true least n low; high = found.1 }

-- an option stands at one of three places, with a number in range
record HasOption (place : ℕ) (option : Text) (least most : ℕ) (words : List Text) : Type 0 where
  number : ℕ
  low : least ≤ number
  high : number ≤ most
  place_is : Stands (option, number) (word_at place words) (word_at (place + 1) words) (word_at (place + 2) words) (word_at (place + 2 + 1) words)
      (word_at (place + 4) words) (word_at (place + 4 + 1) words)

option_is : (place : ℕ) (option : Text) (least most : ℕ) (words : List Text) → most < 2 ^ 64 → is_among_three place option least most words ≡ true →
    HasOption place option least most words
option_is place option least most words small holds =
    elim (or_cases (is_option place option least most words || is_option (place + 2) option least most words)
    (is_option (place + 4) option least most words) holds) [
      | inl early ↦ elim (or_cases (is_option place option least most words) (is_option (place + 2) option least most words) early) [
        | inl here ↦
            let parts = and_parts (is_word place option words) (is_number (place + 1) least most words) here in
            let n = number_is (place + 1) least most words small parts.1 in
            record { number = n.number; low = n.low; high = n.high; place_is = inl (word_is place option words parts.0, n.word) }
        | inr here ↦
            let parts = and_parts (is_word (place + 2) option words) (is_number (place + 2 + 1) least most words) here in
            let n = number_is (place + 2 + 1) least most words small parts.1 in
            record { number = n.number; low = n.low; high = n.high; place_is = inr (inl (word_is (place + 2) option words parts.0, n.word)) }
      ]
      | inr here ↦
          let parts = and_parts (is_word (place + 4) option words) (is_number (place + 4 + 1) least most words) here in
          let n = number_is (place + 4 + 1) least most words small parts.1 in
          record { number = n.number; low = n.low; high = n.high; place_is = inr (inr (word_is (place + 4) option words parts.0, n.word)) }
    ]

-- ---- tests that all hold

and3 : (a b c : Bool) → (a && b && c) ≡ true → (a ≡ true) × (b ≡ true) × (c ≡ true)
and3 a b c h =
    let p2 = and_parts (a && b) c h in
    let p1 = and_parts (a) b p2.0 in
    (p1.0, p1.1, p2.1)

and4 : (a b c d : Bool) → (a && b && c && d) ≡ true → (a ≡ true) × (b ≡ true) × (c ≡ true) × (d ≡ true)
and4 a b c d h =
    let p3 = and_parts (a && b && c) d h in
    let p2 = and_parts (a && b) c p3.0 in
    let p1 = and_parts (a) b p2.0 in
    (p1.0, p1.1, p2.1, p3.1)

and6 : (a b c d e f : Bool) → (a && b && c && d && e && f) ≡ true → (a ≡ true) × (b ≡ true) × (c ≡ true) × (d ≡ true) × (e ≡ true) × (f ≡ true)
and6 a b c d e f h =
    let p5 = and_parts (a && b && c && d && e) f h in
    let p4 = and_parts (a && b && c && d) e p5.0 in
    let p3 = and_parts (a && b && c) d p4.0 in
    let p2 = and_parts (a && b) c p3.0 in
    let p1 = and_parts (a) b p2.0 in
    (p1.0, p1.1, p2.1, p3.1, p4.1, p5.1)

and7 : (a b c d e f g : Bool) → (a && b && c && d && e && f && g) ≡ true → (a ≡ true) × (b ≡ true) × (c ≡ true) × (d ≡ true) × (e ≡ true) × (f ≡ true) ×
    (g ≡ true)
and7 a b c d e f g h =
    let p6 = and_parts (a && b && c && d && e && f) g h in
    let p5 = and_parts (a && b && c && d && e) f p6.0 in
    let p4 = and_parts (a && b && c && d) e p5.0 in
    let p3 = and_parts (a && b && c) d p4.0 in
    let p2 = and_parts (a && b) c p3.0 in
    let p1 = and_parts (a) b p2.0 in
    (p1.0, p1.1, p2.1, p3.1, p4.1, p5.1, p6.1)

-- ---- so many words

two_words : (words : List Text) → length words ≡ 2 → words ≡ word_at 0 words ∷ word_at 1 words ∷ []
two_words [] len = absurd (omega arith)
two_words (x0 ∷ []) len = absurd (omega arith)
two_words (x0 ∷ x1 ∷ []) len = refl
two_words (x0 ∷ x1 ∷ x2 ∷ xs) len = absurd (omega arith)

three_words : (words : List Text) → length words ≡ 3 → words ≡ word_at 0 words ∷ word_at 1 words ∷ word_at 2 words ∷ []
three_words [] len = absurd (omega arith)
three_words (x0 ∷ []) len = absurd (omega arith)
three_words (x0 ∷ x1 ∷ []) len = absurd (omega arith)
three_words (x0 ∷ x1 ∷ x2 ∷ []) len = refl
three_words (x0 ∷ x1 ∷ x2 ∷ x3 ∷ xs) len = absurd (omega arith)

four_words : (words : List Text) → length words ≡ 4 → words ≡ word_at 0 words ∷ word_at 1 words ∷ word_at 2 words ∷ word_at 3 words ∷ []
four_words [] len = absurd (omega arith)
four_words (x0 ∷ []) len = absurd (omega arith)
four_words (x0 ∷ x1 ∷ []) len = absurd (omega arith)
four_words (x0 ∷ x1 ∷ x2 ∷ []) len = absurd (omega arith)
four_words (x0 ∷ x1 ∷ x2 ∷ x3 ∷ []) len = refl
four_words (x0 ∷ x1 ∷ x2 ∷ x3 ∷ x4 ∷ xs) len = absurd (omega arith)

six_words : (words : List Text) → length words ≡ 6 →
    words ≡ word_at 0 words ∷ word_at 1 words ∷ word_at 2 words ∷ word_at 3 words ∷ word_at 4 words ∷ word_at 5 words ∷ []
six_words [] len = absurd (omega arith)
six_words (x0 ∷ []) len = absurd (omega arith)
six_words (x0 ∷ x1 ∷ []) len = absurd (omega arith)
six_words (x0 ∷ x1 ∷ x2 ∷ []) len = absurd (omega arith)
six_words (x0 ∷ x1 ∷ x2 ∷ x3 ∷ []) len = absurd (omega arith)
six_words (x0 ∷ x1 ∷ x2 ∷ x3 ∷ x4 ∷ []) len = absurd (omega arith)
six_words (x0 ∷ x1 ∷ x2 ∷ x3 ∷ x4 ∷ x5 ∷ []) len = refl
six_words (x0 ∷ x1 ∷ x2 ∷ x3 ∷ x4 ∷ x5 ∷ x6 ∷ xs) len = absurd (omega arith)

eight_words : (words : List Text) → length words ≡ 8 →
    words ≡ word_at 0 words ∷ word_at 1 words ∷ word_at 2 words ∷ word_at 3 words ∷ word_at 4 words ∷ word_at 5 words ∷ word_at 6 words ∷ word_at 7 words ∷ []
eight_words [] len = absurd (omega arith)
eight_words (x0 ∷ []) len = absurd (omega arith)
eight_words (x0 ∷ x1 ∷ []) len = absurd (omega arith)
eight_words (x0 ∷ x1 ∷ x2 ∷ []) len = absurd (omega arith)
eight_words (x0 ∷ x1 ∷ x2 ∷ x3 ∷ []) len = absurd (omega arith)
eight_words (x0 ∷ x1 ∷ x2 ∷ x3 ∷ x4 ∷ []) len = absurd (omega arith)
eight_words (x0 ∷ x1 ∷ x2 ∷ x3 ∷ x4 ∷ x5 ∷ []) len = absurd (omega arith)
eight_words (x0 ∷ x1 ∷ x2 ∷ x3 ∷ x4 ∷ x5 ∷ x6 ∷ []) len = absurd (omega arith)
eight_words (x0 ∷ x1 ∷ x2 ∷ x3 ∷ x4 ∷ x5 ∷ x6 ∷ x7 ∷ []) len = refl
eight_words (x0 ∷ x1 ∷ x2 ∷ x3 ∷ x4 ∷ x5 ∷ x6 ∷ x7 ∷ x8 ∷ xs) len = absurd (omega arith)

nine_words : (words : List Text) → length words ≡ 9 →
    words ≡ word_at 0 words ∷ word_at 1 words ∷ word_at 2 words ∷ word_at 3 words ∷ word_at 4 words ∷ word_at 5 words ∷ word_at 6 words ∷ word_at 7
    words ∷ word_at 8 words ∷ []
nine_words [] len = absurd (omega arith)
nine_words (x0 ∷ []) len = absurd (omega arith)
nine_words (x0 ∷ x1 ∷ []) len = absurd (omega arith)
nine_words (x0 ∷ x1 ∷ x2 ∷ []) len = absurd (omega arith)
nine_words (x0 ∷ x1 ∷ x2 ∷ x3 ∷ []) len = absurd (omega arith)
nine_words (x0 ∷ x1 ∷ x2 ∷ x3 ∷ x4 ∷ []) len = absurd (omega arith)
nine_words (x0 ∷ x1 ∷ x2 ∷ x3 ∷ x4 ∷ x5 ∷ []) len = absurd (omega arith)
nine_words (x0 ∷ x1 ∷ x2 ∷ x3 ∷ x4 ∷ x5 ∷ x6 ∷ []) len = absurd (omega arith)
nine_words (x0 ∷ x1 ∷ x2 ∷ x3 ∷ x4 ∷ x5 ∷ x6 ∷ x7 ∷ []) len = absurd (omega arith)
nine_words (x0 ∷ x1 ∷ x2 ∷ x3 ∷ x4 ∷ x5 ∷ x6 ∷ x7 ∷ x8 ∷ []) len = refl
nine_words (x0 ∷ x1 ∷ x2 ∷ x3 ∷ x4 ∷ x5 ∷ x6 ∷ x7 ∷ x8 ∷ x9 ∷ xs) len = absurd (omega arith)

-- ---- lines that pass

solve_line : (words : List Text) → is_solve words ≡ true → HasForm form.Solve words
solve_line words holds =
    let tests = and6 (eqb (length words) 8) (is_word 0 (codes "solve") words) (is_file 1 words) (is_among_three 2 (codes "--slots") 1 MOST_SLOTS words)
    (is_among_three 2 (codes "--nodes") 0 MOST_NODES words) (is_among_three 2 (codes "--workers") 1 MOST_WORKERS words) holds in
    let verb = word_is 0 (codes "solve") words tests.1 in
    let slots = option_is 2 (codes "--slots") 1 MOST_SLOTS words (omega arith) tests.3 in
    let nodes = option_is 2 (codes "--nodes") 0 MOST_NODES words (omega arith) tests.4 in
    let workers = option_is 2 (codes "--workers") 1 MOST_WORKERS words (omega arith) tests.5 in
    let options = in_some_order (codes "--slots", slots.number) (codes "--nodes", nodes.number) (codes "--workers", workers.number)
    (differ (codes "--slots") (codes "--nodes") refl) (differ (codes "--slots") (codes "--workers") refl) (differ (codes "--nodes") (codes "--workers") refl)
    (word_at 2 words) (word_at 3 words) (word_at 4 words) (word_at 5 words) (word_at 6 words)
    (word_at 7 words) slots.place_is nodes.place_is workers.place_is in
    record {
      command = Solve (word_at 1 words) (record { slots = slots.number; nodes = nodes.number; workers = workers.number });
      line = record {
        given = options.given;
        each = options.each;
        as_many = options.as_many;
        words_are = eight_words words (eqb-true (length words) 8 tests.0) ∙ (λ i. verb i ∷ word_at 1 words ∷ options.words_are i);
        in_range = (file_is 1 words tests.2, (slots.low, slots.high, nodes.high), workers.low, workers.high);
      };
      form_is = refl;
    }

replan_line : (words : List Text) → is_replan words ≡ true → HasForm form.Replan words
replan_line words holds =
    let tests = and7 (eqb (length words) 9) (is_word 0 (codes "replan") words) (is_file 1 words) (is_file 2 words)
    (is_among_three 3 (codes "--at") 0 MOST_HORIZON words) (is_among_three 3 (codes "--slots") 1 MOST_SLOTS words)
    (is_among_three 3 (codes "--nodes") 0 MOST_NODES words) holds in
    let verb = word_is 0 (codes "replan") words tests.1 in
    let at = option_is 3 (codes "--at") 0 MOST_HORIZON words (omega arith) tests.4 in
    let slots = option_is 3 (codes "--slots") 1 MOST_SLOTS words (omega arith) tests.5 in
    let nodes = option_is 3 (codes "--nodes") 0 MOST_NODES words (omega arith) tests.6 in
    let options = in_some_order (codes "--at", at.number) (codes "--slots", slots.number) (codes "--nodes", nodes.number)
    (differ (codes "--at") (codes "--slots") refl) (differ (codes "--at") (codes "--nodes") refl) (differ (codes "--slots") (codes "--nodes") refl)
    (word_at 3 words) (word_at 4 words) (word_at 5 words) (word_at 6 words) (word_at 7 words) (word_at 8 words) at.place_is slots.place_is nodes.place_is in
    record {
      command = Replan (word_at 1 words) (word_at 2 words) at.number slots.number nodes.number;
      line = record {
        given = options.given;
        each = options.each;
        as_many = options.as_many;
        words_are = nine_words words (eqb-true (length words) 9 tests.0) ∙ (λ i. verb i ∷ word_at 1 words ∷ word_at 2 words ∷ options.words_are i);
        in_range = (file_is 1 words tests.2, file_is 2 words tests.3, at.high, (slots.low, slots.high, nodes.high));
      };
      form_is = refl;
    }

root_line : (words : List Text) → is_root words ≡ true → HasForm form.Root words
root_line words holds =
    let tests = and4 (eqb (length words) 4) (is_word 0 (codes "root") words) (is_file 1 words) (is_option 2 (codes "--slots") 1 MOST_SLOTS words) holds in
    let option = and_parts (is_word 2 (codes "--slots") words) (is_number 3 1 MOST_SLOTS words) tests.3 in
    let verb = word_is 0 (codes "root") words tests.1 in
    let word = word_is 2 (codes "--slots") words option.0 in
    let slots = number_is 3 1 MOST_SLOTS words (omega arith) option.1 in
    record {
      command = Root (word_at 1 words) slots.number;
      line = record {
        given = (codes "--slots", slots.number) ∷ [];
        each = all_one (codes "--slots", slots.number);
        as_many = refl;
        words_are = four_words words (eqb-true (length words) 4 tests.0) ∙ (λ i. verb i ∷ word_at 1 words ∷ word i ∷ slots.word i ∷ []);
        in_range = (file_is 1 words tests.2, slots.low, slots.high);
      };
      form_is = refl;
    }

recheck_line : (words : List Text) → is_recheck words ≡ true → HasForm form.Recheck words
recheck_line words holds =
    let tests = and6 (eqb (length words) 6) (is_word 0 (codes "recheck") words) (is_file 1 words) (is_file 2 words) (is_file 3 words)
    (is_option 4 (codes "--at") 0 MOST_HORIZON words) holds in
    let option = and_parts (is_word 4 (codes "--at") words) (is_number 5 0 MOST_HORIZON words) tests.5 in
    let verb = word_is 0 (codes "recheck") words tests.1 in
    let word = word_is 4 (codes "--at") words option.0 in
    let at = number_is 5 0 MOST_HORIZON words (omega arith) option.1 in
    record {
      command = Recheck (word_at 1 words) (word_at 2 words) (word_at 3 words) at.number;
      line = record {
        given = (codes "--at", at.number) ∷ [];
        each = all_one (codes "--at", at.number);
        as_many = refl;
        words_are = six_words words (eqb-true (length words) 6 tests.0)
            ∙ (λ i. verb i ∷ word_at 1 words ∷ word_at 2 words ∷ word_at 3 words ∷ word i ∷ at.word i ∷ []);
        in_range = (file_is 1 words tests.2, file_is 2 words tests.3, file_is 3 words tests.4, at.high);
      };
      form_is = refl;
    }

check_line : (words : List Text) → is_check words ≡ true → HasForm form.Check words
check_line words holds =
    let tests = and4 (eqb (length words) 3) (is_word 0 (codes "check") words) (is_file 1 words) (is_file 2 words) holds in
    let verb = word_is 0 (codes "check") words tests.1 in
    record {
      command = Check (word_at 1 words) (word_at 2 words);
      line = record {
        given = [];
        each = all_none [];
        as_many = refl;
        words_are = three_words words (eqb-true (length words) 3 tests.0) ∙ (λ i. verb i ∷ word_at 1 words ∷ word_at 2 words ∷ []);
        in_range = (file_is 1 words tests.2, file_is 2 words tests.3);
      };
      form_is = refl;
    }

replay_line : (words : List Text) → is_replay words ≡ true → HasForm form.Replay words
replay_line words holds =
    let tests = and4 (eqb (length words) 3) (is_word 0 (codes "replay") words) (is_file 1 words) (is_file 2 words) holds in
    let verb = word_is 0 (codes "replay") words tests.1 in
    record {
      command = Replay (word_at 1 words) (word_at 2 words);
      line = record {
        given = [];
        each = all_none [];
        as_many = refl;
        words_are = three_words words (eqb-true (length words) 3 tests.0) ∙ (λ i. verb i ∷ word_at 1 words ∷ word_at 2 words ∷ []);
        in_range = (file_is 1 words tests.2, file_is 2 words tests.3);
      };
      form_is = refl;
    }

show_line : (words : List Text) → is_show words ≡ true → HasForm form.Show words
show_line words holds =
    let tests = and3 (eqb (length words) 2) (is_word 0 (codes "show") words) (is_file 1 words) holds in
    let verb = word_is 0 (codes "show") words tests.1 in
    record {
      command = Show (word_at 1 words);
      line = record {
        given = [];
        each = all_none [];
        as_many = refl;
        words_are = two_words words (eqb-true (length words) 2 tests.0) ∙ (λ i. verb i ∷ word_at 1 words ∷ []);
        in_range = file_is 1 words tests.2;
      };
      form_is = refl;
    }

make_line : (words : List Text) → is_make words ≡ true → HasForm form.Make words
make_line words holds =
    let tests = and3 (eqb (length words) 2) (is_word 0 (codes "make") words) (is_number 1 0 MOST_NUMBER words) holds in
    let verb = word_is 0 (codes "make") words tests.1 in
    let number = number_is 1 0 MOST_NUMBER words (omega arith) tests.2 in
    record {
      command = Make number.number false;
      line = record {
        given = [];
        each = all_none [];
        as_many = refl;
        words_are = two_words words (eqb-true (length words) 2 tests.0) ∙ (λ i. verb i ∷ number.word i ∷ []);
        in_range = number.high;
      };
      form_is = refl;
    }

make_and_solve_line : (words : List Text) → is_make_and_solve words ≡ true → HasForm form.Make words
make_and_solve_line words holds =
    let tests = and4 (eqb (length words) 3) (is_word 0 (codes "make") words) (is_number 1 0 MOST_NUMBER words) (is_word 2 (codes "--solve") words) holds in
    let verb = word_is 0 (codes "make") words tests.1 in
    let number = number_is 1 0 MOST_NUMBER words (omega arith) tests.2 in
    let flag = word_is 2 (codes "--solve") words tests.3 in
    record {
      command = Make number.number true;
      line = record {
        given = [];
        each = all_none [];
        as_many = refl;
        words_are = three_words words (eqb-true (length words) 3 tests.0) ∙ (λ i. verb i ∷ number.word i ∷ flag i ∷ []);
        in_range = number.high;
      };
      form_is = refl;
    }

-- ---- the form that is found

if_found : (P : Form → Type 0) (test : Bool) (this found : Form) (others : Option Form) → (test ≡ true → P this) → (others ≡ Some found → P found) →
    cond test (Some this) others ≡ Some found → P found
if_found P true this found others here there is = subst P (same_Some this found is) (here refl)
if_found P false this found others here there is = there is

-- words of which a form is found are a plain line of that form
pub form_found : (words : List Text) (found : Form) → form_among words ≡ Some found → HasForm found words
form_found words found is =
    let P : Form → Type 0 = λ f. HasForm f words in
    let none : None ≡ Some found → P found = λ e. absurd cc in
    if_found P (is_solve words) form.Solve found _ (solve_line words)
    (if_found P (is_check words) form.Check found _ (check_line words)
    (if_found P (is_replay words) form.Replay found _ (replay_line words)
    (if_found P (is_show words) form.Show found _ (show_line words)
    (if_found P (is_make words || is_make_and_solve words) form.Make found _ make
    (if_found P (is_root words) form.Root found _ (root_line words)
    (if_found P (is_replan words) form.Replan found _ (replan_line words)
    (if_found P (is_recheck words) form.Recheck found _ (recheck_line words) none))))))) is
  where
    make : (is_make words || is_make_and_solve words) ≡ true → HasForm form.Make words
    make holds = elim (or_cases (is_make words) (is_make_and_solve words) holds)
        [ inl plain ↦ make_line words plain | inr solved ↦ make_and_solve_line words solved ]
