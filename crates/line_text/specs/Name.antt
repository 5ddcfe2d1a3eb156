-- Names of crudes, places and operations, as they stand in a plant and in a plan.
use Rattle.std.specs.Prelude.{ℕ, Bool, ◌&&◌, ◌||◌, nat_le, ◌==◌, List, length}
use Rattle.std.specs.List.{list_all}
use Rattle.std.specs.Char.{is_ascii_uppercase, is_ascii_lowercase, is_ascii_digit}
use Rattle.limits.specs.declared.TheConstants.{LONGEST_NAME}

-- a letter of ASCII, a digit, `_`, `.` or `-`
abbrev pub is_name_byte : ℕ → Bool
is_name_byte byte =
    is_ascii_uppercase byte || is_ascii_lowercase byte || is_ascii_digit byte || byte == 95 || byte == 46 || byte == 45

-- such bytes, one at least and no more than a name may have
abbrev pub is_name : List ℕ → Bool
is_name bytes = nat_le 1 (length bytes) && nat_le (length bytes) LONGEST_NAME && list_all is_name_byte bytes
