-- The numbers of the common and of the own bank, and what a move makes of each.
use Rattle.std.specs.Prelude.{◌≡◌, ℕ, ◌^◌, ◌≤◌, max, true, cond, ◌&&◌, nat_le, slice_index}
use Rattle.std.proofs.Math.Bool.{Bool-set}
use mathlib.Core.HLevel.{is_prop→PathP}
use Rattle.std.proofs.Common.{inl, inr, arith}
use Rattle.std.proofs.Math.Bridge.{le_prop}
use Rattle.std.proofs.lemmas.Bool.{cases_Bool, leb-true, and_parts}
use Rattle.banks.specs.Numbers.{ranged, raised, raised_ranged}
use Rattle.banks.specs.declared.state.CommonBank.{CommonBank}
use Rattle.banks.specs.declared.state.OwnBank.{OwnBank}

abbrev pub common_number : CommonBank → ℕ → ℕ
common_number b p = cond (nat_le p 63) b.clock 0

abbrev pub common_clock : ℕ → ℕ → ℕ → ℕ
common_clock old p u = cond (nat_le p 63 && nat_le u (2 ^ 40)) (max old u) old

pub common_small : (old p u : ℕ) → old ≤ 2 ^ 40 → common_clock old p u ≤ 2 ^ 40
common_small old p u h =
    elim (cases_Bool (nat_le p 63 && nat_le u (2 ^ 40))) [
      | inl e ↦ simp e (let k : u ≤ 2 ^ 40 = leb-true u (2 ^ 40) (and_parts (nat_le p 63) (nat_le u (2 ^ 40)) e).1 in omega arith)
      | inr e ↦ simp e h
    ]

abbrev pub common_moved : CommonBank → ℕ → ℕ → CommonBank
common_moved b p u = record { clock = common_clock b.clock p u; small = common_small b.clock p u b.small }

-- banks with equal clocks are equal
pub same_common : (a b : CommonBank) → a.clock ≡ b.clock → a ≡ b
same_common a b e = λ i. record { clock = e i; small = is_prop→PathP (λ i. e i ≤ 2 ^ 40) (λ i. le_prop) a.small b.small i }

abbrev pub own_number : OwnBank → ℕ → ℕ
own_number b p = slice_index b.numbers p

abbrev pub own_moved : OwnBank → ℕ → ℕ → OwnBank
own_moved b p u = record { numbers = raised b.numbers p u; lawful = raised_ranged b.numbers p u b.lawful }

pub same_own : (a b : OwnBank) → a.numbers ≡ b.numbers → a ≡ b
same_own a b e = λ i. record { numbers = e i; lawful = is_prop→PathP (λ i. ranged (e i) ≡ true) (λ i. Bool-set (ranged (e i)) true) a.lawful b.lawful i }
