-- The measure of each function of the cycle: the node's number, which falls with each child, and for one node the order in which its functions call
-- each other. In `rounds` what was read and what is to come are the rounds of 01, and each round that goes on leaves fewer bits. In `scan` the starts
-- before this one had errors and left nothing.
use Rattle.std.proofs.Common.{◌≡◌, ◌+◌, ◌-◌, ◌*◌, length}
use Rattle.bits.specs.Bits.{total}
use Rattle.reader.specs.Inner.Windows.{words_of, SameTables}
use Rattle.reader.proofs.Going.{Going}
use Rattle.reader.proofs.Trying.{Trying}
use Rattle.reader.proofs.+node_reader.Given as goal

abbrev pub decreases-nodes::Reader::absorb : goal.decreases-nodes::Reader::absorb
decreases-nodes::Reader::absorb l = 8 * l.at.node + 4

abbrev pub decreases-sequences::Sequence::done : goal.decreases-sequences::Sequence::done
decreases-sequences::Sequence::done l = 8 * l.self.now.at.node + 2

abbrev pub decreases-nodes::Reader::either : goal.decreases-nodes::Reader::either
decreases-nodes::Reader::either l = 8 * l.at.node + 4

abbrev pub decreases-nodes::Reader::look : goal.decreases-nodes::Reader::look
decreases-nodes::Reader::look l = 8 * l.at.node + 0

abbrev pub decreases-nodes::Reader::pair : goal.decreases-nodes::Reader::pair
decreases-nodes::Reader::pair l = 8 * l.at.node + 4

abbrev pub decreases-nodes::Reader::part : goal.decreases-nodes::Reader::part
decreases-nodes::Reader::part l = 8 * l.at.node + 0

abbrev pub decreases-nodes::Reader::read_from : goal.decreases-nodes::Reader::read_from
decreases-nodes::Reader::read_from l = 8 * l.at.node + 7

abbrev pub decreases-nodes::Reader::read_into : goal.decreases-nodes::Reader::read_into
decreases-nodes::Reader::read_into l = 8 * l.at.node + 6

abbrev pub decreases-nodes::Reader::read_node : goal.decreases-nodes::Reader::read_node
decreases-nodes::Reader::read_node l = 8 * l.at.node + 5

abbrev pub decreases-sequences::Sequence::round : goal.decreases-sequences::Sequence::round
decreases-sequences::Sequence::round l = 8 * l.self.now.at.node + 2

abbrev pub decreases-sequences::Sequence::rounds : goal.decreases-sequences::Sequence::rounds
decreases-sequences::Sequence::rounds l = 8 * l.self.now.at.node + 3

abbrev pub decreases-nodes::Reader::scan : goal.decreases-nodes::Reader::scan
decreases-nodes::Reader::scan l = 8 * l.at.node + 4

abbrev pub decreases-nodes::Reader::sequence : goal.decreases-nodes::Reader::sequence
decreases-nodes::Reader::sequence l = 8 * l.at.node + 4

abbrev pub decreases-nodes::Reader::tried : goal.decreases-nodes::Reader::tried
decreases-nodes::Reader::tried l = 8 * l.at.node + 2

abbrev pub decreases-nodes::Reader::where_holds : goal.decreases-nodes::Reader::where_holds
decreases-nodes::Reader::where_holds l = 8 * l.at.node + 4

abbrev pub invariant-sequences::Sequence::rounds-loop-begin : goal.invariant-sequences::Sequence::rounds-loop-begin
invariant-sequences::Sequence::rounds-loop-begin l =
    Going l.self.reader.now l.initial.lent l.self.at l.self.operand l.o (words_of l.initial.tables) l.lent (words_of l.tables) l.r
    × (length l.lent ≡ length l.initial.lent)
    × SameTables l.initial.tables l.tables

abbrev pub decreases-sequences::Sequence::rounds-loop-begin : goal.decreases-sequences::Sequence::rounds-loop-begin
decreases-sequences::Sequence::rounds-loop-begin l = total l.self.reader.now.input.now - l.r.end

abbrev pub invariant-nodes::Reader::scan-loop-p : goal.invariant-nodes::Reader::scan-loop-p
invariant-nodes::Reader::scan-loop-p l =
    Trying l.self l.initial.lent l.at l.o (words_of l.initial.tables) l.lent (words_of l.tables) l.p
    × (length l.lent ≡ length l.initial.lent)
    × SameTables l.initial.tables l.tables
