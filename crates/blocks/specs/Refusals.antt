-- The refusals, their numbers and their order.
use Rattle.std.specs.Prelude.{ℕ, Bool, cond, List, ◌++◌, Some, None, codes, decimal, Option}
use Rattle.blocks.specs.declared.refusal.Refusal.{Refusal}
use Rattle.blocks.specs.declared.refusal.Refusal.TheVariants.{Length, Check, Number, Count, Letter}

-- the number of each refusal
abbrev pub refusal_number : Refusal → ℕ
refusal_number Length = 11
refusal_number Check = 12
refusal_number Number = 13
refusal_number Count = 14
refusal_number Letter = 15

-- what is printed of a refusal: the number of its question
abbrev pub refusal_words : Refusal → List ℕ
refusal_words q = codes "refused " ++ decimal (refusal_number q)

-- the refusal of the first question that is answered 'no', or none: is the length right, the check, the number, the count, and is each letter known?
abbrev pub first_no : Bool → Bool → Bool → Bool → Bool → Option Refusal
first_no length check number count letters =
    cond length (cond check (cond number (cond count (cond letters None (Some Letter)) (Some Count)) (Some Number)) (Some Check)) (Some Length)
