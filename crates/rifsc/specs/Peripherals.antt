-- The peripheral filter: document 01, "Peripheral p exists when .." and "An access is granted when ..".
use Rattle.std.specs.Prelude.{Bool, not, ◌&&◌, ◌||◌, ltb}
use Rattle.words.specs.Six.{bit_at}
use Rattle.rifsc.specs.Registers.{ppsrs}
use Rattle.rifsc.specs.declared.peripherals.Filter.{Filter}
use Rattle.rifsc.specs.declared.peripherals.PeripheralNumber.{PeripheralNumber}
use Rattle.rifsc.specs.declared.contents.Rifsc.{Rifsc}

-- p < 128 and its PPSR bit is 1
unfoldable pub exists : PeripheralNumber → Bool
exists p = ltb p.0 128 && bit_at ppsrs p.0

-- SEC and PRIV of a peripheral
unfoldable pub filter_of : Rifsc → PeripheralNumber → Filter
filter_of r p = record { sec = bit_at r.seccfgr p.0; privileged = bit_at r.privcfgr p.0 }

-- SEC is 0 or the access is secure, and PRIV is 0 or it is privileged
unfoldable pub grants : Filter → Bool → Bool → Bool
grants f secure privileged = (not f.sec || secure) && (not f.privileged || privileged)
