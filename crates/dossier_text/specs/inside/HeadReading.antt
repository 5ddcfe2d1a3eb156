-- Reading the lines of a dossier before its lists.
use Rattle.std.specs.Prelude.{ℕ, ◌-◌, ◌^◌, List, Option, Some, None, Result, Ok, Err, if◌then◌else◌, codes, ℤ}
use Rattle.std.specs.Str.{bytes_eq}
use Rattle.limits.specs.declared.TheConstants.{MOST_SLOTS, MOST_NODES}
use Rattle.line_text.specs.Words.{words_of}
use Rattle.line_text.specs.Decimal.{decimal_of, signed_of}
use Rattle.line_text.specs.Reading.{key_at}
use Rattle.dossier_text.specs.declared.fault.DossierFault.{DossierFault}
use Rattle.dossier_text.specs.declared.fault.DossierFault.TheVariants.{Line}
use Rattle.dossier_text.specs.declared.dossier.Word3.{Word3}
use Rattle.dossier_text.specs.declared.dossier.Word3.TheVariants.{Plan, Infeasible, Open3}
use Rattle.dossier_text.specs.declared.head_lines.Sizes.{Sizes}
use Rattle.dossier_text.specs.declared.head_lines.Claim.{Claim}
use Rattle.dossier_text.specs.Faults.{◌>>=◌, formed, limited, line_at}
use Rattle.dossier_text.specs.inside.WordReading.{word_at, number_at}

-- this very line, and what stands behind it
unfoldable pub fixed_at : ℕ → List ℕ → List ℕ → Result (List ℕ) DossierFault
fixed_at line text bytes = do
  parts ← line_at line bytes
  if bytes_eq parts.0 text then Ok parts.1 else Err (Line line)

-- the format, and the order in which the points of boxes are tried as plans
unfoldable pub format_at : List ℕ → Result (List ℕ) DossierFault
format_at bytes = do
  rest ← fixed_at 1 (codes "crude dossier 1") bytes
  fixed_at 2 (codes "order slots") rest

-- a word and a number of 32 bits, which is to be at most so much
unfoldable pub count_in : ℕ → List ℕ → ℕ → List ℕ → Result ℕ DossierFault
count_in line key most text = do
  behind_key ← formed line (key_at key (words_of text))
  count ← number_at line (2 ^ 32 - 1) behind_key
  limited line most count count

-- a line of a word and a number, and the lines after it
unfoldable pub count_at : ℕ → List ℕ → ℕ → List ℕ → Result (ℕ × List ℕ) DossierFault
count_at line key most bytes = do
  parts ← line_at line bytes
  count ← count_in line key most parts.0
  Ok (count, parts.1)

-- the number of slots, and of inner nodes
unfoldable pub sizes_at : List ℕ → Result (Sizes × List ℕ) DossierFault
sizes_at bytes = do
  slots ← count_at 3 (codes "slots") (2 ^ 32 - 1) bytes
  nodes ← count_at 4 (codes "nodes") MOST_NODES slots.1
  Ok (record { slots = slots.0; nodes = nodes.0 }, nodes.1)

-- the one word behind this one
unfoldable pub word_in : ℕ → List ℕ → List ℕ → Result (List ℕ) DossierFault
word_in line key text = do
  behind_key ← formed line (key_at key (words_of text))
  word_at line behind_key

-- the word of an answer
unfoldable pub answer_of : ℕ → List ℕ → Result Word3 DossierFault
answer_of line word =
    if bytes_eq word (codes "plan") then Ok Plan
    else if bytes_eq word (codes "infeasible") then Ok Infeasible
    else if bytes_eq word (codes "open") then Ok Open3
    else Err (Line line)

-- the line of the answer, and the lines after it
unfoldable pub answer_at : List ℕ → Result (Word3 × List ℕ) DossierFault
answer_at bytes = do
  parts ← line_at 5 bytes
  word ← word_in 5 (codes "answer") parts.0
  answer ← answer_of 5 word
  Ok (answer, parts.1)

-- a number with a sign, or `none`
unfoldable pub claim_of : ℕ → List ℕ → Result (Option ℤ) DossierFault
claim_of line word =
    if bytes_eq word (codes "none") then Ok None
    else (formed line (signed_of word) >>= λ number. Ok (Some number))

-- a line of a word and a number that may be none, and the lines after it
unfoldable pub claimed_at : ℕ → List ℕ → List ℕ → Result (Option ℤ × List ℕ) DossierFault
claimed_at line key bytes = do
  parts ← line_at line bytes
  word ← word_in line key parts.0
  claim ← claim_of line word
  Ok (claim, parts.1)

-- the answer, the margin and the bound
unfoldable pub claim_at : List ℕ → Result (Claim × List ℕ) DossierFault
claim_at bytes = do
  answer ← answer_at bytes
  margin ← claimed_at 6 (codes "margin") answer.1
  bound ← claimed_at 7 (codes "bound") margin.1
  Ok (record { answer = answer.0; margin = margin.0; bound = bound.0 }, bound.1)

-- the number of operations, or `none`
unfoldable pub plan_count_of : ℕ → List ℕ → Result (Option ℕ) DossierFault
plan_count_of line word =
    if bytes_eq word (codes "none") then Ok None
    else (formed line (decimal_of (2 ^ 32 - 1) word) >>= λ count.
    (limited line MOST_SLOTS count count >>= λ few. Ok (Some few)))

-- the line that tells how many operations the plan has, if there is one, and the lines after it
unfoldable pub plan_count_at : List ℕ → Result (Option ℕ × List ℕ) DossierFault
plan_count_at bytes = do
  parts ← line_at 8 bytes
  word ← word_in 8 (codes "plan") parts.0
  count ← plan_count_of 8 word
  Ok (count, parts.1)
