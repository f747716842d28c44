-- 01's table of refusals, 1 to 10: the number of each, and the node given. Request 4: 11 "is not used again".
use Rattle.std.specs.Prelude.{ℕ, Result, Ok, Err}
use Rattle.description.specs.declared.Refusal.{Refusal}
use Rattle.description.specs.declared.Refusal.TheVariants.{EmptyOrTooLong, UnknownKind, BodyCutShort, TooManyNodes, NotListed, ChildNotSmaller, ChildNamedBefore, NumberNodeWanted, NeverNamed, NoEnclosingBind}

abbrev pub refusal_number : Refusal → ℕ
refusal_number EmptyOrTooLong = 1
refusal_number (UnknownKind n) = 2
refusal_number (BodyCutShort n) = 3
refusal_number TooManyNodes = 4
refusal_number (NotListed n) = 5
refusal_number (ChildNotSmaller n) = 6
refusal_number (ChildNamedBefore n) = 7
refusal_number (NumberNodeWanted n) = 8
refusal_number (NeverNamed n) = 9
refusal_number (NoEnclosingBind n) = 10

abbrev pub refusal_node : Refusal → ℕ
refusal_node EmptyOrTooLong = 0
refusal_node (UnknownKind n) = n
refusal_node (BodyCutShort n) = n
refusal_node TooManyNodes = 64
refusal_node (NotListed n) = n
refusal_node (ChildNotSmaller n) = n
refusal_node (ChildNamedBefore n) = n
refusal_node (NumberNodeWanted n) = n
refusal_node (NeverNamed n) = n
refusal_node (NoEnclosingBind n) = n

-- "The check alone gives 1 to 11 with the node, or 0 and node 0 where it accepts": since request 4, 1 to 10.
abbrev pub verdict_number : Result (Unit {0}) Refusal → ℕ
verdict_number (Ok done) = 0
verdict_number (Err r) = refusal_number r

abbrev pub verdict_node : Result (Unit {0}) Refusal → ℕ
verdict_node (Ok done) = 0
verdict_node (Err r) = refusal_node r
