-- The value of a level: a number of `value_width` bytes.
use Rattle.std.specs.Prelude.{List, ℕ}
use Rattle.stream.specs.declared.Fault.{Fault}
use Rattle.stream.specs.Reading.{Reading, number_bytes, read_number}

-- How many bytes a value takes.
abbrev pub value_width : ℕ
value_width = 2

-- "level (0 to 65,535)": the values lie below this.
unfoldable pub level_limit : ℕ
level_limit = 65536

-- The bytes of a value, and then r; and its reading.
abbrev pub value_bytes : ℕ → List ℕ → List ℕ
value_bytes v r = number_bytes value_width v r

abbrev pub read_value : Fault → List ℕ → Reading ℕ
read_value if_short s = read_number if_short value_width s
