-- Where the words and the bits of a region are: document 01, "Region x from 1, at ..".
use Rattle.std.specs.Prelude.{ℕ, ◌+◌, ◌*◌}

-- ---- words, among those of a guard's regions

-- a base region's: CFGR, START, END, CIDCFGR; a subregion's: CFGR, START, END, NEST
abbrev pub start_at : ℕ
start_at = 1

abbrev pub end_at : ℕ
end_at = 2

abbrev pub cidcfgr_at : ℕ
cidcfgr_at = 3

abbrev pub nest_at : ℕ
nest_at = 3

abbrev pub base_words : ℕ
base_words = 4

abbrev pub subregion_words : ℕ
subregion_words = 4

-- a base region, with its subregions A and B
abbrev pub region_words : ℕ
region_words = base_words + 2 * subregion_words

-- no guard has more base regions
abbrev pub most_regions : ℕ
most_regions = 11

-- base region x, from 0, has its words from here
abbrev pub base : ℕ → ℕ
base x = region_words * x

-- and subregion s, 0 for A and 1 for B, from here
abbrev pub sub : ℕ → ℕ → ℕ
sub x s = region_words * x + base_words + subregion_words * s

-- ---- bits of CFGR

-- BREN, SREN
abbrev pub enable_bit : ℕ
enable_bit = 0

abbrev pub sec_bit : ℕ
sec_bit = 8

-- PRIVC of a base region for CID c
abbrev pub privc_bit : ℕ → ℕ
privc_bit c = 16 + c

-- of a subregion
abbrev pub srcid_bit : ℕ
srcid_bit = 4

abbrev pub priv_bit : ℕ
priv_bit = 9

abbrev pub rden_bit : ℕ
rden_bit = 12

abbrev pub wren_bit : ℕ
wren_bit = 13

-- ---- bits of CIDCFGR: the enables of CID c

abbrev pub read_bit : ℕ → ℕ
read_bit c = c

abbrev pub write_bit : ℕ → ℕ
write_bit c = 16 + c
