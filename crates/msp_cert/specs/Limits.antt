-- The limits within which certificates are judged, by their numbers.
use Rattle.std.specs.Prelude.{◌≡◌, ◌^◌}
use Rattle.msp_cert.specs.declared.limits.TheConstants.{MOST_ENTRIES, GREATEST_HEAD, GREATEST_PRICE}

-- A proof has at most 20,000 entries, a head is at most 10^12, and a price at most 10^15 in size.
abbrev pub AreLimits : Type 0
AreLimits = (MOST_ENTRIES ≡ 20000) × (GREATEST_HEAD ≡ 10 ^ 12) × (GREATEST_PRICE ≡ 10 ^ 15)
