-- What a bus carries of an access: document 02, Q-6, "Their bus carries no CID: every access counts .. as CID 0".
use Rattle.access.specs.declared.bus.Bus.{Bus}
use Rattle.access.specs.declared.bus.Bus.TheVariants.{Axi, Ahb}
use Rattle.access.specs.declared.kind.Cid.{Cid}
use Rattle.access.specs.declared.kind.Kind.{Kind}

abbrev pub heard_cid : Bus → Cid → Cid
heard_cid Axi c = c
heard_cid Ahb c = record { 0 = 0 }

-- the asking as the bus hears it
abbrev pub heard : Bus → Kind → Kind
heard bus k =
    record { cid = heard_cid bus k.cid; write = k.write; privileged = k.privileged; secure = k.secure }
