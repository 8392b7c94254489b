-- The fixed numbers of SPEC 12, each named once. Assumes nothing.
use Rattle.std.specs.Prelude.{ℕ}

abbrev pub u32_max : ℕ
u32_max = 4_294_967_295

abbrev pub u64_max : ℕ
u64_max = 18_446_744_073_709_551_615

-- a bundle has at most 64 texts
abbrev pub max_texts : ℕ
max_texts = 64

-- a window has at most 16 texts
abbrev pub max_width : ℕ
max_width = 16

-- there are at most 8 labs
abbrev pub max_labs : ℕ
max_labs = 8

-- the entry limit is a 32nd of the scratch's words, and at most 65,535
abbrev pub words_per_entry : ℕ
words_per_entry = 32

abbrev pub max_entries : ℕ
max_entries = 65_535

-- the program `gather`: bytes of standard input, words of scratch, bytes of output
abbrev pub program_input : ℕ
program_input = 65_536

abbrev pub program_words : ℕ
program_words = 8_192

abbrev pub program_output : ℕ
program_output = 65_536
