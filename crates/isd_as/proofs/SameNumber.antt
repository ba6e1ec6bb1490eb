-- Two ISD-AS numbers with the same parts, or with the same 64 bits, are the same.
use Rattle.std.proofs.Common.{◌≡◌, ◌<◌, ◌^◌, arith}
use Rattle.std.proofs.Props.{props}
use mathlib.Core.HLevel.{is_prop→PathP}
use Rattle.isd_as.specs.declared.number.IsdAs.{IsdAs}
use Rattle.isd_as.specs.IsdAs.{isd_as_number}

pub same_parts : (a b : IsdAs) → a.isd ≡ b.isd → a.asn ≡ b.asn → a ≡ b
same_parts a b p q =
    λ i. record {
      isd = p i;
      asn = q i;
      in_range = is_prop→PathP (λ j. q j < 2 ^ 48) (λ j. hlevel props) a.in_range b.in_range i;
    }

pub number_of_injective : (a b : IsdAs) → isd_as_number a ≡ isd_as_number b → a ≡ b
number_of_injective a b e =
    let high : a.isd ≡ b.isd = omega (arith, a.in_range, b.in_range) in
    same_parts a b high (omega arith)
