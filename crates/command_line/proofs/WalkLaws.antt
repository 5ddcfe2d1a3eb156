-- How the words behind a verb are walked over, word by word, whatever the rules are: what is found, and that it passes.
use Rattle.std.proofs.Common.{◌≡◌, ℕ, ◌≤◌, ◌<◌, ◌^◌, Bool, true, false, cond, leb, eqb, ltb, List, [], ◌∷◌, ◌++◌, length, Option, Some, None, refl, ap}
use Rattle.std.proofs.Common.{◌∙◌, arith}
use Rattle.std.specs.Prelude.{◌&&◌, not, IsTrue, decimal, slice_index}
use Rattle.std.specs.List.{fold, list_all}
use Rattle.std.specs.Str.{bytes_eq, all_ascii_digits}
use Rattle.std.specs.Option.{option_map_or}
use Rattle.std.proofs.lemmas.Bool.{and_from, and_parts, leb-true, ne_eqb, or_right}
use Rattle.std.proofs.lemmas.Fmt.{digits_decimal}
use Rattle.line_text.proofs.DecimalLaws.{own}
use Rattle.clap.specs.Lexer.{long_of, short_of}
use Rattle.clap.specs.Simple.{Shape}
use Rattle.clap.specs.Takes.{bundle_passes, default_passes, flag_word_passes, is_valid, level_passes, long_passes, option_passes, other_passes, react_passes}
use Rattle.clap.specs.Takes.{settle_passes, step_passes, turn_passes, walk_passes}
use Rattle.clap.specs.Walk.{Held, Names, Row, Rule, Step, Text, Walk, after_flag, after_step, arg_by_id, arg_by_index, arg_by_long, finished}
use Rattle.clap.specs.Walk.{flag_met, idle, long_met, long_or_other, most_values, next, nothing_held, option, option_met, option_word, pending_count, pushed}
use Rattle.clap.specs.Walk.{settled_rows, short_or_plain, takes_values, to_positional, trailing, value, walk_from, walked, word_met}
use Rattle.command_line.specs.PlainLine.{is_file_word}

-- the word is no flag and no option: it is a value
pub record IsValueWord (word : Text) : Type 0 where
  pub no_dashes : bytes_eq word (45 ∷ 45 ∷ []) ≡ false
  pub no_long : long_of word ≡ None
  pub no_short : short_of word ≡ None

no_dash_first : (word : Text) → eqb (slice_index word 0) 45 ≡ false → IsValueWord word
no_dash_first [] first = record { no_dashes = refl; no_long = refl; no_short = refl }
no_dash_first (byte ∷ bytes) first = record { no_dashes = rw first refl; no_long = rw first refl; no_short = rw first refl }

false_of_not : (b : Bool) → not b ≡ true → b ≡ false
false_of_not false h = refl
false_of_not true h = absurd cc

-- words that name files are values
pub file_is_value : (word : Text) → IsTrue (is_file_word word) → IsValueWord word
file_is_value word named = no_dash_first word (false_of_not _ (and_parts (leb 1 (length word) && leb (length word) 255) _ named).1)

digits_first : (word : Text) → all_ascii_digits word ≡ true → eqb (slice_index word 0) 45 ≡ false
digits_first [] digits = refl
digits_first (byte ∷ bytes) digits =
    let first = and_parts (leb 48 byte && leb byte 57) (all_ascii_digits bytes) digits in
    let low : 48 ≤ byte = leb-true 48 byte (and_parts (leb 48 byte) (leb byte 57) first.0).0 in
    ne_eqb byte 45 (λ same. omega arith)

-- and so are decimals
pub decimal_is_value : (n : ℕ) → n < 2 ^ 64 → IsValueWord (decimal n)
decimal_is_value n small = no_dash_first (decimal n) (digits_first (decimal n) (digits_decimal own n small))

-- ---- the walk

-- between two uses: the rows so far, the use that is not settled yet, and the place of the next value
abbrev pub between : List Row → Option (Text × List Text) → ℕ → Walk
between rows pending position = record {
  held = record { rows = rows; pending = pending; skip = 0 };
  waiting = idle;
  position = position;
  is_trailing = false;
  stopped = None;
}

-- behind the word of an option: its value is next
abbrev pub behind_option : List Row → Text → ℕ → Walk
behind_option rows name position = record {
  held = record { rows = rows; pending = Some (name, []); skip = 0 };
  waiting = option name;
  position = position;
  is_trailing = false;
  stopped = None;
}

-- a value that stands alone goes to the next place
value_met : (c : List Rule) (position : ℕ) (word : Text) (h : Held) → IsValueWord word → word_met c [] false idle position word h ≡ (h, value)
value_met c position word h is =
    ap (λ b. cond b (h, trailing position) (long_or_other c idle word (long_of word) h)) is.no_dashes
    ∙ ap (λ o. long_or_other c idle word o h) is.no_long
    ∙ ap (λ o. short_or_plain c idle word o h) is.no_short

pub place_walked : (c : List Rule) (rows : List Row) (pending : Option (Text × List Text)) (position : ℕ) (word : Text) → IsValueWord word →
    walked c [] (between rows pending position) word
    ≡ to_positional c (arg_by_index c position) word (between rows pending position) (between rows pending position).held
unfolding walked
place_walked c rows pending position word is =
    let w = between rows pending position in ap (λ met. after_step c word w met.0 met.1) (value_met c position word w.held is)

-- a value behind an option is the option's
abbrev taken_by : List Rule → Text → Text → Held → Held × Step
taken_by c name word h = ((option_word (arg_by_id c name) name word h).0, next (option_word (arg_by_id c name) name word h).1)

option_value_met : (c : List Rule) (position : ℕ) (name word : Text) (h : Held) → IsValueWord word →
    word_met c [] false (option name) position word h ≡ taken_by c name word h
option_value_met c position name word h is =
    ap (λ b. cond b (h, trailing position) (long_or_other c (option name) word (long_of word) h)) is.no_dashes
    ∙ ap (λ o. long_or_other c (option name) word o h) is.no_long
    ∙ ap (λ o. short_or_plain c (option name) word o h) is.no_short

value_walked : (c : List Rule) (rows : List Row) (name : Text) (position : ℕ) (word : Text) → IsValueWord word →
    walked c [] (behind_option rows name position) word
    ≡ (let w = behind_option rows name position in after_step c word w (taken_by c name word w.held).0 (taken_by c name word w.held).1)
unfolding walked
value_walked c rows name position word is =
    let w = behind_option rows name position in ap (λ met. after_step c word w met.0 met.1) (option_value_met c position name word w.held is)

-- `--name` is the word of an option of one value
pub record IsOption (c : List Rule) (word name : Text) : Type 0 where
  pub rule : Rule
  pub no_dashes : bytes_eq word (45 ∷ 45 ∷ []) ≡ false
  pub long_is : long_of word ≡ Some (name, None)
  pub by_long : arg_by_long c name ≡ Some rule
  pub by_name : arg_by_id c name ≡ Some rule
  pub id_is : rule.id ≡ name
  pub takes : takes_values rule ≡ true
  pub takes_one : (value : Text) → ltb (pending_count rule (Some (name, value ∷ []))) (most_values rule) ≡ false

option_met_is : (c : List Rule) (position : ℕ) (word name : Text) (h : Held) → (is : IsOption c word name) →
    word_met c [] false idle position word h ≡ after_flag c idle word (option_met c is.rule None h).0 (option_met c is.rule None h).1
option_met_is c position word name h is =
    ap (λ b. cond b (h, trailing position) (long_or_other c idle word (long_of word) h)) is.no_dashes
    ∙ ap (λ o. long_or_other c idle word o h) is.long_is
    ∙ ap (λ o. after_flag c idle word (long_met c o None h).0 (long_met c o None h).1) is.by_long
    ∙ ap (λ b. after_flag c idle word (cond b (option_met c is.rule None h) (flag_met c is.rule None h)).0
    (cond b (option_met c is.rule None h) (flag_met c is.rule None h)).1) is.takes

option_walked : (c : List Rule) (rows : List Row) (pending : Option (Text × List Text)) (position : ℕ) (word name : Text) → IsOption c word name →
    walked c [] (between rows pending position) word ≡ behind_option (settled_rows c pending rows) name position
unfolding walked
option_walked c rows pending position word name is =
    let w = between rows pending position in
    ap (λ met. after_step c word w met.0 met.1) (option_met_is c position word name w.held is)
    ∙ ap (λ id. behind_option (settled_rows c pending rows) id position) is.id_is

-- an option as it is used: its word, and its value behind it
pub record Use (c : List Rule) : Type 0 where
  pub word : Text
  pub name : Text
  pub value : Text
  pub is_option : IsOption c word name
  pub is_value : IsValueWord value

-- the use that is not settled yet
abbrev pub last : {c : List Rule} → Use c → Option (Text × List Text)
last u = Some (u.name, u.value ∷ [])

-- an option with its value, whatever stood before
pub option_used : (c : List Rule) (rows : List Row) (pending : Option (Text × List Text)) (position : ℕ) (u : Use c) →
    walked c [] (walked c [] (between rows pending position) u.word) u.value ≡ between (settled_rows c pending rows) (last u) position
option_used c rows pending position u =
    let before = settled_rows c pending rows in
    let w = behind_option before u.name position in
    ap (λ v. walked c [] v u.value) (option_walked c rows pending position u.word u.name u.is_option)
    ∙ value_walked c before u.name position u.value u.is_value
    ∙ ap (λ o. after_step c u.value w (option_word o u.name u.value w.held).0 (next (option_word o u.name u.value w.held).1)) u.is_option.by_name
    ∙ ap (λ b. after_step c u.value w (pushed u.name u.value w.held) (next (cond b (option u.name) idle))) (u.is_option.takes_one u.value)

-- the rows once three options have followed
abbrev pub rows_of_three : (c : List Rule) → List Row → Option (Text × List Text) → Use c → Use c → List Row
rows_of_three c rows pending u0 u1 = settled_rows c (last u1) (settled_rows c (last u0) (settled_rows c pending rows))

-- ---- that the words pass

no_flag_passes : (s : Shape) (again : Bool) (word : Text) (h : Held) → IsValueWord word → flag_word_passes s.rules again (long_of word) word h ≡ true
no_flag_passes s again word h is =
    ap (λ o. flag_word_passes s.rules again o word h) is.no_long ∙ ap (λ o. option_map_or (λ flags. bundle_passes s.rules again flags h) o true) is.no_short

no_flag_is_fine : (s : Shape) (word : Text) (h : Held) → IsValueWord word → other_passes s None word h ≡ true
no_flag_is_fine s word h is = or_right (bytes_eq word (45 ∷ 45 ∷ [])) _ (no_flag_passes s s.args_override_self word h is)

place_turn : (s : Shape) (rows : List Row) (pending : Option (Text × List Text)) (position : ℕ) (word : Text) → IsValueWord word →
    step_passes s position (between rows pending position).held value ≡ true → turn_passes s [] (between rows pending position) word ≡ true
place_turn s rows pending position word is goes =
    let h = (between rows pending position).held in
    and_from (other_passes s None word h) _ (no_flag_is_fine s word h is)
    (ap (λ met. step_passes s position met.0 met.1) (value_met s.rules position word h is) ∙ goes)

option_turn : (s : Shape) (rows : List Row) (pending : Option (Text × List Text)) (position : ℕ) (word name : Text) → IsOption s.rules word name →
    settle_passes s.rules s.args_override_self (between rows pending position).held ≡ true → turn_passes s [] (between rows pending position) word ≡ true
option_turn s rows pending position word name is goes =
    let h = (between rows pending position).held in
    let again = s.args_override_self in
    let flag : flag_word_passes s.rules again (long_of word) word h ≡ true =
    ap (λ o. flag_word_passes s.rules again o word h) is.long_is ∙ ap (λ o. long_passes s.rules again o None h) is.by_long
    ∙ ap (λ b. cond b (option_passes s.rules again is.rule None h) (true && react_passes s.rules again is.rule [] h)) is.takes
    ∙ goes in
    and_from (other_passes s None word h) _ (or_right (bytes_eq word (45 ∷ 45 ∷ [])) _ flag)
    (ap (λ met. step_passes s position met.0 met.1) (option_met_is s.rules position word name h is))

value_turn : (s : Shape) (rows : List Row) (name : Text) (position : ℕ) (word : Text) → IsValueWord word →
    turn_passes s [] (behind_option rows name position) word ≡ true
value_turn s rows name position word is =
    let h = (behind_option rows name position).held in
    and_from (other_passes s None word h) _ (no_flag_is_fine s word h is)
    (ap (λ met. step_passes s position met.0 met.1) (option_value_met s.rules position name word h is))

-- from here the words lead there, and pass
pub record GoesOn (s : Shape) (from : Walk) (words : List Text) (end : Walk) : Type 0 where
  pub leads : fold (walked s.rules []) from words ≡ end
  pub passes : walk_passes s [] from words ≡ true

pub goes_no_further : (s : Shape) (here : Walk) → GoesOn s here [] here
unfolding walk_passes
goes_no_further s here = record { leads = refl; passes = refl }

-- by a value at the next place
pub goes_to_place : (s : Shape) (rows : List Row) (pending : Option (Text × List Text)) (position : ℕ) (word : Text) (after : Walk) (rest : List Text)
    (end : Walk) →
    IsValueWord word → step_passes s position (between rows pending position).held value ≡ true →
    to_positional s.rules (arg_by_index s.rules position) word (between rows pending position) (between rows pending position).held ≡ after →
    GoesOn s after rest end → GoesOn s (between rows pending position) (word ∷ rest) end
unfolding walk_passes
goes_to_place s rows pending position word after rest end is goes next_is on =
    let walked_is = place_walked s.rules rows pending position word is ∙ next_is in
    record {
      leads = ap (λ w. fold (walked s.rules []) w rest) walked_is ∙ on.leads;
      passes = and_from _ (walk_passes s [] (walked s.rules [] (between rows pending position) word) rest)
          (place_turn s rows pending position word is goes) (ap (λ w. walk_passes s [] w rest) walked_is ∙ on.passes);
    }

-- by an option with its value
pub goes_by_option : (s : Shape) (rows : List Row) (pending : Option (Text × List Text)) (position : ℕ) (u : Use s.rules) (rest : List Text) (end : Walk) →
    settle_passes s.rules s.args_override_self (between rows pending position).held ≡ true →
    GoesOn s (between (settled_rows s.rules pending rows) (last u) position) rest end →
    GoesOn s (between rows pending position) (u.word ∷ u.value ∷ rest) end
unfolding walk_passes
goes_by_option s rows pending position u rest end goes on =
    let c = s.rules in
    let w = between rows pending position in
    let used_is = option_used c rows pending position u in
    let value_passes : turn_passes s [] (walked c [] w u.word) u.value ≡ true =
    ap (λ v. turn_passes s [] v u.value) (option_walked c rows pending position u.word u.name u.is_option)
    ∙ value_turn s (settled_rows c pending rows) u.name position u.value u.is_value in
    record {
      leads = ap (λ v. fold (walked c []) v rest) used_is ∙ on.leads;
      passes = and_from _ (turn_passes s [] (walked c [] w u.word) u.value && walk_passes s [] (walked c [] (walked c [] w u.word) u.value) rest)
          (option_turn s rows pending position u.word u.name u.is_option goes)
          (and_from _ (walk_passes s [] (walked c [] (walked c [] w u.word) u.value) rest) value_passes (ap (λ v. walk_passes s [] v rest) used_is ∙ on.passes));
    }

-- by three options
pub goes_by_three : (s : Shape) (rows : List Row) (pending : Option (Text × List Text)) (position : ℕ) (u0 u1 u2 : Use s.rules) →
    settle_passes s.rules s.args_override_self (between rows pending position).held ≡ true →
    settle_passes s.rules s.args_override_self (between (settled_rows s.rules pending rows) (last u0) position).held ≡ true →
    settle_passes s.rules s.args_override_self (between (settled_rows s.rules (last u0) (settled_rows s.rules pending rows)) (last u1) position).held ≡ true →
    GoesOn s (between rows pending position) (u0.word ∷ u0.value ∷ u1.word ∷ u1.value ∷ u2.word ∷ u2.value ∷ [])
    (between (rows_of_three s.rules rows pending u0 u1) (last u2) position)
goes_by_three s rows pending position u0 u1 u2 fine0 fine1 fine2 =
    let r0 = settled_rows s.rules pending rows in
    let r1 = settled_rows s.rules (last u0) r0 in
    let end = between (settled_rows s.rules (last u1) r1) (last u2) position in
    goes_by_option s rows pending position u0 (u1.word ∷ u1.value ∷ u2.word ∷ u2.value ∷ []) end fine0
    (goes_by_option s r0 (last u0) position u1 (u2.word ∷ u2.value ∷ []) end fine1
    (goes_by_option s r1 (last u1) position u2 [] end fine2 (goes_no_further s end)))

-- what was found at the end passes
abbrev pub ends_well : Shape → Held → Bool
ends_well s h =
    settle_passes s.rules s.args_override_self h && (list_all default_passes s.rules && is_valid s (finished s.rules h) false)

-- so the words pass as a whole
pub level_is_passed : (s : Shape) (words : List Text) (end : Walk) → GoesOn s (walk_from nothing_held) words end → ends_well s end.held ≡ true →
    level_passes s [] nothing_held words false ≡ true
level_is_passed s words end goes well =
    and_from (walk_passes s [] (walk_from nothing_held) words) _ goes.passes (ap (λ w. ends_well s w.held) goes.leads ∙ well)

-- after a verb the words are left to it
pub stopped_passes : (s : Shape) (names : Names) (w : Walk) (verb : Text) (seen words : List Text) →
    walk_passes s names (record w { stopped = Some (verb, seen) }) words ≡ true
unfolding walk_passes walked
stopped_passes s names w verb seen [] = refl
stopped_passes s names w verb seen (word ∷ words) = stopped_passes s names w verb (seen ++ word ∷ []) words
