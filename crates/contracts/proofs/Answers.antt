-- Any two outcomes that the contract of a public function allows are equal: its answer, and every buffer that it is lent. Each statement is of the
-- contract itself, as a caller learns it.
use Prim.Native.Nat.{ℕ}
use mathlib.Core.List.{List}
use mathlib.Core.Path.{◌≡◌, refl, sym, ap, ◌∙◌}
use borrow.Fn.Kinds.{ParamKind, ResultKind, Dens, res_t, ended_of, Out}
use contract.Lifetimes.{Lfts}
use denote.Triple.Clauses.{AtExit}
use native.Mathlib.Omega.{arith}
use mathlib.Core.List.{[], ◌∷◌}
use lib.ListN.{get_or}
use Rattle.std.proofs.lemmas.Bool.{both_ways}
use Rattle.std.specs.Prelude.{Result, Ok, Err, MatchResult}
use Rattle.description.specs.Bodies.{byte_of, relation_meant, operator_meant}
use Rattle.description.specs.declared.kinds.Kind.{Kind}
use Rattle.description.specs.declared.kinds.Kind.TheVariants as kind
use Rattle.description.proofs.Bodies.{byte_below}
use Rattle.description.specs.Nodes.{Relation, equal, not_equal, less, at_most, greater, at_least, Operator, add, subtract, Operand, constant, bound}
use Rattle.description.specs.Places.{meant}
use Rattle.description.specs.declared.kinds.Operator as operators
use Rattle.description.specs.declared.kinds.Operator.TheVariants.{Add, Subtract}
use Rattle.description.specs.declared.kinds.Relation as relations
use Rattle.description.specs.declared.kinds.Relation.TheVariants.{Equal, NotEqual, Less, AtMost, Greater, AtLeast}
use Rattle.description.specs.declared.places.Operand as answers
use Rattle.description.specs.declared.places.Operand.TheVariants.{Constant, Bound}
use Rattle.writing.specs.Outcome.{Outcome, given}
use Rattle.bits.proofs.unsigned.Kinds as unsigned-kinds
use Rattle.bits.proofs.unsigned.Reads as unsigned
use Rattle.bits.proofs.signed.Kinds as signed-kinds
use Rattle.bits.proofs.signed.Reads as signed
use Rattle.description.proofs.check.Kinds as check-kinds
use Rattle.description.proofs.check.Reads as check
use Rattle.description.proofs.examine.Kinds as examine-kinds
use Rattle.description.proofs.examine.Reads as examine
use Rattle.description.proofs.kinds.KindTryFromU8.try_from.Kinds as kind-from-kinds
use Rattle.description.proofs.kinds.KindTryFromU8.try_from.Reads as kind-from
use Rattle.description.proofs.kinds.Kind.bytes.Kinds as bytes-kinds
use Rattle.description.proofs.kinds.Kind.bytes.Reads as bytes
use Rattle.description.proofs.kinds.Kind.children.Kinds as children-kinds
use Rattle.description.proofs.kinds.Kind.children.Reads as children
use Rattle.description.proofs.kinds.Kind.is_number.Kinds as kind-is-number-kinds
use Rattle.description.proofs.kinds.Kind.is_number.Reads as kind-is-number
use Rattle.description.proofs.kinds.body_of.Kinds as body-of-kinds
use Rattle.description.proofs.kinds.body_of.Reads as body-of
use Rattle.description.proofs.kinds.children_of.Kinds as children-of-kinds
use Rattle.description.proofs.kinds.children_of.Reads as children-of
use Rattle.description.proofs.kinds.is_number.Kinds as is-number-kinds
use Rattle.description.proofs.kinds.is_number.Reads as is-number
use Rattle.description.proofs.kinds.RelationTryFromU8.try_from.Kinds as relation-from-kinds
use Rattle.description.proofs.kinds.RelationTryFromU8.try_from.Reads as relation-from
use Rattle.description.proofs.kinds.OperatorTryFromU8.try_from.Kinds as operator-from-kinds
use Rattle.description.proofs.kinds.OperatorTryFromU8.try_from.Reads as operator-from
use Rattle.description.proofs.Refusal.number.Kinds as number-kinds
use Rattle.description.proofs.Refusal.number.Reads as number
use Rattle.description.proofs.Refusal.node.Kinds as node-kinds
use Rattle.description.proofs.Refusal.node.Reads as node
use Rattle.description.proofs.places.Nodes.kind_of.Kinds as kind-of-kinds
use Rattle.description.proofs.places.Nodes.kind_of.Reads as kind-of
use Rattle.description.proofs.places.Nodes.field_of.Kinds as field-of-kinds
use Rattle.description.proofs.places.Nodes.field_of.Reads as field-of
use Rattle.description.proofs.places.Nodes.child_of.Kinds as child-of-kinds
use Rattle.description.proofs.places.Nodes.child_of.Reads as child-of
use Rattle.description.proofs.places.Nodes.relation_of.Kinds as relation-of-kinds
use Rattle.description.proofs.places.Nodes.relation_of.Reads as relation-of
use Rattle.description.proofs.places.Nodes.operator_of.Kinds as operator-of-kinds
use Rattle.description.proofs.places.Nodes.operator_of.Reads as operator-of
use Rattle.description.proofs.places.Nodes.operand_of.Kinds as operand-of-kinds
use Rattle.description.proofs.places.Nodes.operand_of.Reads as operand-of
use Rattle.reader.proofs.read.Kinds as read-kinds
use Rattle.reader.proofs.read.Reads as read
use Rattle.reader.proofs.Refused.number.Kinds as read-number-kinds
use Rattle.reader.proofs.Refused.number.Reads as read-number
use Rattle.reader.proofs.Refused.node.Kinds as read-node-kinds
use Rattle.reader.proofs.Refused.node.Reads as read-node
use Rattle.reader.proofs.RefusedFromRefusal.from.Kinds as read-refused-kinds
use Rattle.reader.proofs.RefusedFromRefusal.from.Reads as read-refused
use Rattle.writing.proofs.RefusedFromRefusal.from.Kinds as write-refused-kinds
use Rattle.writing.proofs.RefusedFromRefusal.from.Reads as write-refused
use Rattle.host.proofs.NumbersFromResultSuccessRefused.from.Kinds as numbers-kinds
use Rattle.host.proofs.NumbersFromResultSuccessRefused.from.Reads as numbers
use Rattle.host.proofs.BitsFromResultU32WritingRefused.from.Kinds as bits-kinds
use Rattle.host.proofs.BitsFromResultU32WritingRefused.from.Reads as bits
use Rattle.writing.proofs.Refused.number.Kinds as write-number-kinds
use Rattle.writing.proofs.Refused.number.Reads as write-number
use Rattle.writing.proofs.Refused.node.Kinds as write-node-kinds
use Rattle.writing.proofs.Refused.node.Reads as write-node
use Rattle.writer.proofs.write.Kinds as write-kinds
use Rattle.writer.proofs.write.Reads as write
use Rattle.host.proofs.rippleshrug_check_slice.Kinds as check-slice-kinds
use Rattle.host.proofs.rippleshrug_check_slice.Reads as check-slice
use Rattle.host.proofs.rippleshrug_read_slices.Kinds as read-slices-kinds
use Rattle.host.proofs.rippleshrug_read_slices.Reads as read-slices
use Rattle.host.proofs.rippleshrug_write_slices.Kinds as write-slices-kinds
use Rattle.host.proofs.rippleshrug_write_slices.Reads as write-slices
use Rattle.text.proofs.list.Kinds as list-kinds
use Rattle.text.proofs.list.Reads as list
use Rattle.text.proofs.call.Kinds as call-kinds
use Rattle.text.proofs.call.Reads as call
use Rattle.contracts.proofs.Determined.{same-given}

-- A function with so many lifetimes, its parameters and its result, and what its contract allows.
module _ (n : ℕ) (ps : List (ParamKind n)) (r : ResultKind n) (Allows : Out n ps r) where
  -- For the same arguments two answers that are allowed are one,
  abbrev pub OneAnswer : Type 0
  OneAnswer = (κs : Lfts n) (a : Dens κs ps) (x y : (res_t r κs).Denot) (s t : AtExit (ended_of n ps r) κs) → Allows κs a x s → Allows κs a y t → x ≡ y

  -- and so are the contents of a buffer afterwards.
  abbrev pub OneBuffer : ((κs : Lfts n) → AtExit (ended_of n ps r) κs → List ℕ) → Type 0
  OneBuffer buffer =
      (κs : Lfts n) (a : Dens κs ps) (x y : (res_t r κs).Denot) (s t : AtExit (ended_of n ps r) κs)
      → Allows κs a x s → Allows κs a y t → buffer κs s ≡ buffer κs t

-- bits
pub unsigned_answer : OneAnswer 1 unsigned-kinds.ps unsigned-kinds.r unsigned.Learnt
unsigned_answer κs a x y s t e f = e ∙ sym f

pub signed-answer : OneAnswer 1 signed-kinds.ps signed-kinds.r signed.Learnt
signed-answer κs a x y s t e f = e ∙ sym f

-- description
pub check_answer : OneAnswer 1 check-kinds.ps check-kinds.r check.Learnt
check_answer κs a x y s t e f = e ∙ sym f

pub examine_answer : OneAnswer 2 examine-kinds.ps examine-kinds.r examine.Learnt
examine_answer κs a x y s t e f = e.0 ∙ sym f.0

pub examine_starts : OneBuffer 2 examine-kinds.ps examine-kinds.r examine.Learnt (λ κs s. s.1.0.now)
examine_starts κs a x y s t e f = e.1.0 ∙ sym f.1.0

-- Two results are one, where both their values and both their errors are, and a value is not there beside an error.
module _ {V E : Type 0} (P : V → Type 0) (Q : E → Type 0) (one : (v w : V) → P v → P w → v ≡ w) (failed : (d e : E) → d ≡ e) (apart : (v : V) (e : E) → P v → Q e → ⊥) where
  one_result : (x y : Result V E) → MatchResult x P Q → MatchResult y P Q → x ≡ y
  one_result (Ok v) (Ok w) p q = ap Ok (one v w p q)
  one_result (Ok v) (Err e) p q = absurd (apart v e p q)
  one_result (Err e) (Ok v) p q = absurd (apart v e q p)
  one_result (Err d) (Err e) p q = ap Err (failed d e)

-- the kind that a byte says, and the relation and the operator of the code's that one of the rules is
kind_said : ℕ → Kind
kind_said byte =
    get_or (kind.Unit ∷ kind.Bottom ∷ kind.Bits ∷ kind.Signed ∷ kind.Then ∷ kind.Bind ∷ kind.Either ∷ kind.Both ∷ kind.Where ∷ kind.Sequence ∷ kind.Compute ∷ kind.Absorb ∷ kind.Scan ∷ []) byte kind.Unit

kind-said : (k : Kind) → kind_said (byte_of k) ≡ k
unfolding kind_said
kind-said kind.Unit = refl
kind-said kind.Bottom = refl
kind-said kind.Bits = refl
kind-said kind.Signed = refl
kind-said kind.Then = refl
kind-said kind.Bind = refl
kind-said kind.Either = refl
kind-said kind.Both = refl
kind-said kind.Where = refl
kind-said kind.Sequence = refl
kind-said kind.Compute = refl
kind-said kind.Absorb = refl
kind-said kind.Scan = refl

relation_said : Relation → relations.Relation
relation_said equal = Equal
relation_said not_equal = NotEqual
relation_said less = Less
relation_said at_most = AtMost
relation_said greater = Greater
relation_said at_least = AtLeast

relation-said : (r : relations.Relation) → relation_said (relation_meant r) ≡ r
unfolding relation_said
relation-said Equal = refl
relation-said NotEqual = refl
relation-said Less = refl
relation-said AtMost = refl
relation-said Greater = refl
relation-said AtLeast = refl

operator_said : Operator → operators.Operator
operator_said add = Add
operator_said subtract = Subtract

operator-said : (f : operators.Operator) → operator_said (operator_meant f) ≡ f
unfolding operator_said
operator-said Add = refl
operator-said Subtract = refl

one_kind : (b : ℕ) (k l : Kind) → byte_of k ≡ b → byte_of l ≡ b → k ≡ l
one_kind b k l e f = sym (kind-said k) ∙ ap kind_said (e ∙ sym f) ∙ kind-said l

one_relation : (m : Relation) (q r : relations.Relation) → relation_meant q ≡ m → relation_meant r ≡ m → q ≡ r
one_relation m q r e f = sym (relation-said q) ∙ ap relation_said (e ∙ sym f) ∙ relation-said r

one_operator : (m : Operator) (g h : operators.Operator) → operator_meant g ≡ m → operator_meant h ≡ m → g ≡ h
one_operator m g h e f = sym (operator-said g) ∙ ap operator_said (e ∙ sym f) ∙ operator-said h

pub kind_from-answer : OneAnswer 0 kind-from-kinds.ps kind-from-kinds.r kind-from.Learnt
kind_from-answer κs a x y s t e f =
    one_result _ _ (λ k l. one_kind _ k l) (λ d g. refl) (λ k d p past. absurd (omega (arith, byte_below k, p, past))) x y e f

pub relation_from-answer : OneAnswer 0 relation-from-kinds.ps relation-from-kinds.r relation-from.Learnt
relation_from-answer κs a x y s t e f =
    one_result _ _ (λ q r p o. one_relation _ q r p.1 o.1) (λ d g. refl) (λ q d p no. both_ways _ no p.0) x y e f

pub operator_from-answer : OneAnswer 0 operator-from-kinds.ps operator-from-kinds.r operator-from.Learnt
operator_from-answer κs a x y s t e f =
    one_result _ _ (λ g h p o. one_operator _ g h p.1 o.1) (λ d i. refl) (λ g d p no. both_ways _ no p.0) x y e f

pub bytes_answer : OneAnswer 0 bytes-kinds.ps bytes-kinds.r bytes.Learnt
bytes_answer κs a x y s t e f = e ∙ sym f

pub children_answer : OneAnswer 0 children-kinds.ps children-kinds.r children.Learnt
children_answer κs a x y s t e f = e ∙ sym f

pub kind_is_number-answer : OneAnswer 0 kind-is-number-kinds.ps kind-is-number-kinds.r kind-is-number.Learnt
kind_is_number-answer κs a x y s t e f = e ∙ sym f

pub body_of-answer : OneAnswer 0 body-of-kinds.ps body-of-kinds.r body-of.Learnt
body_of-answer κs a x y s t e f = e ∙ sym f

pub children_of_answer : OneAnswer 0 children-of-kinds.ps children-of-kinds.r children-of.Learnt
children_of_answer κs a x y s t e f = e ∙ sym f

pub is_number-answer : OneAnswer 0 is-number-kinds.ps is-number-kinds.r is-number.Learnt
is_number-answer κs a x y s t e f = e ∙ sym f

pub number-answer : OneAnswer 0 number-kinds.ps number-kinds.r number.Learnt
number-answer κs a x y s t e f = e ∙ sym f

pub node-answer : OneAnswer 0 node-kinds.ps node-kinds.r node.Learnt
node-answer κs a x y s t e f = e ∙ sym f

pub kind_of-answer : OneAnswer 2 kind-of-kinds.ps kind-of-kinds.r kind-of.Learnt
kind_of-answer κs a x y s t e f = one_kind _ x y e f

pub field_of-answer : OneAnswer 2 field-of-kinds.ps field-of-kinds.r field-of.Learnt
field_of-answer κs a x y s t e f = e ∙ sym f

pub child_of_answer : OneAnswer 2 child-of-kinds.ps child-of-kinds.r child-of.Learnt
child_of_answer κs a x y s t e f = e.0 ∙ sym f.0

pub relation_of-answer : OneAnswer 2 relation-of-kinds.ps relation-of-kinds.r relation-of.Learnt
relation_of-answer κs a x y s t e f = one_relation _ x y e f

pub operator_of-answer : OneAnswer 2 operator-of-kinds.ps operator-of-kinds.r operator-of.Learnt
operator_of-answer κs a x y s t e f = one_operator _ x y e f

-- the answer that says an operand
sayer : Operand → answers.Operand
sayer (constant z) = Constant z
sayer (bound k) = Bound k

sayer-meant : (x : answers.Operand) → sayer (meant x) ≡ x
unfolding sayer
sayer-meant (Constant z) = refl
sayer-meant (Bound k) = refl

pub operand_of-answer : OneAnswer 2 operand-of-kinds.ps operand-of-kinds.r operand-of.Learnt
operand_of-answer κs a x y s t e f = sym (sayer-meant x) ∙ ap sayer (e ∙ sym f) ∙ sayer-meant y

-- reader
pub read_answer : OneAnswer 4 read-kinds.ps read-kinds.r read.Learnt
read_answer κs a x y s t e f = (same-given x y _ _ _ _ (e ∙ sym f)).0

pub read-values : OneBuffer 4 read-kinds.ps read-kinds.r read.Learnt (λ κs s. s.1.1.0.now)
read-values κs a x y s t e f = (same-given x y _ _ _ _ (e ∙ sym f)).1

pub read-descriptors : OneBuffer 4 read-kinds.ps read-kinds.r read.Learnt (λ κs s. s.1.1.1.0.now)
read-descriptors κs a x y s t e f = (same-given x y _ _ _ _ (e ∙ sym f)).2

pub read_number-answer : OneAnswer 0 read-number-kinds.ps read-number-kinds.r read-number.Learnt
read_number-answer κs a x y s t e f = e ∙ sym f

pub read_node-answer : OneAnswer 0 read-node-kinds.ps read-node-kinds.r read-node.Learnt
read_node-answer κs a x y s t e f = e ∙ sym f

pub read_refused-answer : OneAnswer 0 read-refused-kinds.ps read-refused-kinds.r read-refused.Learnt
read_refused-answer κs a x y s t e f = e ∙ sym f

-- writer
pub write_answer : OneAnswer 3 write-kinds.ps write-kinds.r write.Learnt
unfolding given
write_answer κs a x y s t e f = ap (λ (o : Outcome). o.answer) (e ∙ sym f)

pub write_buffer : OneBuffer 3 write-kinds.ps write-kinds.r write.Learnt (λ κs s. s.1.1.1.0.now)
unfolding given
write_buffer κs a x y s t e f = ap (λ (o : Outcome). o.buffer) (e ∙ sym f)

pub write_number-answer : OneAnswer 0 write-number-kinds.ps write-number-kinds.r write-number.Learnt
write_number-answer κs a x y s t e f = e ∙ sym f

pub write_node-answer : OneAnswer 0 write-node-kinds.ps write-node-kinds.r write-node.Learnt
write_node-answer κs a x y s t e f = e ∙ sym f

pub write_refused-answer : OneAnswer 0 write-refused-kinds.ps write-refused-kinds.r write-refused.Learnt
write_refused-answer κs a x y s t e f = e ∙ sym f

-- host
pub numbers_answer : OneAnswer 0 numbers-kinds.ps numbers-kinds.r numbers.Learnt
numbers_answer κs a x y s t e f = e ∙ sym f

pub bits_answer : OneAnswer 0 bits-kinds.ps bits-kinds.r bits.Learnt
bits_answer κs a x y s t e f = e ∙ sym f

pub check_slice_answer : OneAnswer 1 check-slice-kinds.ps check-slice-kinds.r check-slice.Learnt
check_slice_answer κs a x y s t e f = e ∙ sym f

pub read_slices_answer : OneAnswer 4 read-slices-kinds.ps read-slices-kinds.r read-slices.Learnt
read_slices_answer κs a x y s t e f = e.numbers ∙ sym f.numbers

pub read_slices_values : OneBuffer 4 read-slices-kinds.ps read-slices-kinds.r read-slices.Learnt (λ κs s. s.1.1.0.now)
read_slices_values κs a x y s t e f = e.values ∙ sym f.values

pub read_slices_descriptors : OneBuffer 4 read-slices-kinds.ps read-slices-kinds.r read-slices.Learnt (λ κs s. s.1.1.1.0.now)
read_slices_descriptors κs a x y s t e f = e.descriptors ∙ sym f.descriptors

pub write_slices_answer : OneAnswer 3 write-slices-kinds.ps write-slices-kinds.r write-slices.Learnt
write_slices_answer κs a x y s t e f = e.numbers ∙ sym f.numbers

pub write_slices_buffer : OneBuffer 3 write-slices-kinds.ps write-slices-kinds.r write-slices.Learnt (λ κs s. s.1.1.1.0.now)
write_slices_buffer κs a x y s t e f = e.buffer ∙ sym f.buffer

-- text
pub list_answer : OneAnswer 2 list-kinds.ps list-kinds.r list.Learnt
list_answer κs a x y s t e f = e.1.0 ∙ sym f.1.0

pub list_text : OneBuffer 2 list-kinds.ps list-kinds.r list.Learnt (λ κs s. s.1.0.now)
list_text κs a x y s t e f = e.0 ∙ sym f.0

pub call_answer : OneAnswer 3 call-kinds.ps call-kinds.r call.Learnt
call_answer κs a x y s t e f = e.0.next-is ∙ sym f.0.next-is

pub call_text : OneBuffer 3 call-kinds.ps call-kinds.r call.Learnt (λ κs s. s.1.1.1.0.now)
call_text κs a x y s t e f = e.0.text_is ∙ sym f.0.text_is
