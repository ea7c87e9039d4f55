-- A gate behind its lock may be shared among threads: what it holds may go to another thread, where its allocator may, and any thread may give
-- a block back to it. It is shown part by part, since a search through all of them at once stops at a limit: no law stands made for a part in
-- which a table of reducers lies, since its slots hold slots.
use denote.RattleType.{RattleType}
use denote.Builtin.{u64}
use denote.Hole.{as_row}
use denote.Struct.Field.{u32-field, bool-field}
use denote.Struct.Declared as S
use denote.Struct.Record.{declared}
use denote.Param.Send.{IsSend, IsSync, Frees, sendable, view_send}
use denote.Param.SendFields.{FieldsHave, as_row_send, declared_send}
use Rattle.std.specs.declared.alloc.Allocator as alloc
use Rattle.std.specs.declared.clone.Clone as clone
use Rattle.std.specs.declared.sync.ledger.Ledger as ledger
use Rattle.std.specs.contracts.alloc.Global as Heap
use Rattle.std.specs.contracts.impls.GlobalAllocator.TheImpl.{ghosts}
use Rattle.std.specs.contracts.boxed.Box as Box
use Rattle.std.specs.contracts.vec.Vec as Vec
use Rattle.std.proofs.Crossing as heap
use Rattle.std.proofs.CrossingOver.{crosses}
use Rattle.std.proofs.sync.ledger.Book.TheSendSync as book
use Rattle.packed_history.specs.contracts.entries.Entries as Entries
use Rattle.packed_history.proofs.entries.Entries.TheSendSync as entries
use Rattle.text_words.proofs.value.Shape.TheSendSync as shape
use Rattle.text_words.specs.contracts.value.Shape as Shape
use Rattle.locked_replay.below.branch_names.proofs.branches.Branches.TheSendSync as branches
use Rattle.locked_replay.below.view_read_rule.proofs.reads.ReadPeers.TheSendSync as peers
use Rattle.locked_replay.below.sp_labels.proofs.roster.Strands.TheSendSync as strands
use Rattle.locked_replay.below.shadow_history.proofs.shadow.Shadow.TheSendSync as shadow
use Rattle.locked_replay.below.reducer_views.proofs.touched.Slot.TheLaws.TheKnot as slot
use Rattle.locked_replay.below.model_reducers.specs.contracts.monoid.Monoid as Monoid
use Rattle.locked_replay.below.reducer_views.specs.contracts.touched.Slot as Slot
use Rattle.locked_replay.below.reducer_views.specs.contracts.pieces.Piece as Piece
use Rattle.locked_replay.below.reducer_views.specs.contracts.views.Views as Views
use Rattle.race_gate.specs.contracts.reducers.ReducerTracks as ReducerTracks
use Rattle.race_gate.specs.contracts.judging.Core as Core
use Rattle.race_gate.specs.contracts.judging.Core.TheInside as inside
use Rattle.race_gate.specs.contracts.tracks.Tracks as Tracks
use Rattle.race_gate.specs.contracts.gate.Gate as Gate
use Rattle.race_gate.specs.declared.history.History as history
use Rattle.locked_replay.specs.contracts.locked.CountedGate as Round
use Rattle.locked_replay.specs.contracts.locked.LockedGate as LockedGate

module _ (A : RattleType) (a : alloc.Ghosts A.Denot) (sent : IsSend A) (frees : Frees a a.dealloc_token) where
  box_send : (T : RattleType) → IsSend T → IsSend (Box.the_row T A a)
  box_send T s = search (sendable, crosses)

  slot_send : IsSend (Slot.the_field A a).row
  slot_send = slot.send-Slot A a (search sendable depth 40 fits 20000) (λ h s. let b = box_send h s in search sendable depth 20) (search sendable depth 20)

  piece_send : IsSend (Piece.the_row A a)
  piece_send = search (sendable, crosses, slot_send) depth 40 fits 20000

  vec_send : (T : RattleType) → IsSend T → IsSend (Vec.the_row T A a)
  vec_send T s = search (sendable, crosses)

  spare_send : IsSend (Vec.the_row (Box.the_row (Slot.the_field A a).row A a) A a)
  spare_send = vec_send _ (box_send _ slot_send)

  module _ (c : clone.Ghosts A.Denot) where
    views_send : IsSend (Views.the_row A a c)
    views_send =
        let m = vec_send Monoid.the_row (search sendable depth 20) in
        let p = vec_send (Piece.the_row A a) piece_send in
        let q = spare_send in
        let v = box_send in
        let w = vec_send in
        let t = slot_send in
        search (sendable, vec_send, box_send, slot.crosses) depth 40 fits 100000

    reducers_send : IsSend (ReducerTracks.the_row A a c)
    reducers_send =
        let b = branches.the_send A a sent frees in
        let p = peers.the_send A a sent frees in
        let v = views_send in
        search sendable depth 40 fits 100000

    tracks_send : IsSend (Tracks.the_row A a c)
    tracks_send =
        let s = strands.the_send A a sent frees in
        let d = shadow.the_send A a sent frees in
        let r = reducers_send in
        search sendable depth 40 fits 100000

    shape_send : IsSend (Shape.the_row A a)
    shape_send = search (sendable, crosses, shape.the_send) depth 40 fits 20000

    -- field by field, since a search through all fields at once stops at a limit
    core_send : IsSend (Core.the_row A a c)
    core_send =
        let T = declared (inside.struct A a c) (inside.the_propositions A.Denot) in
        let word : IsSend (as_row u32-field) = search sendable depth 20 in
        let truth : IsSend (as_row bool-field) = search sendable depth 20 in
        let cells : IsSend (as_row (Vec.the_field u64 A a)) = as_row_send (Vec.the_field u64 A a) (search (sendable, crosses)) in
        let all : FieldsHave IsSend T.parts = (shape_send, (word, (truth, (word, (truth, (cells, (tracks_send, tt))))))) in
        view_send (S.row T) _ _ _ _ (declared_send T all)

    gate_send : (h : history.Ghosts (Entries.the_row A a).Denot) → IsSend (Gate.the_row A (Entries.the_row A a) a c h)
    gate_send h =
        let e = entries.the_send A a sent frees in
        let k = core_send in
        search sendable depth 40 fits 100000

    module _ (L : RattleType) (g : ledger.Ghosts L.Denot) where
      round_send : IsSend (Round.the_row L A c g a)
      round_send = search (sendable, crosses, gate_send, book.the_send) depth 40 fits 20000

      pub locked_sync_over : IsSync (LockedGate.the_row L A c g a)
      locked_sync_over = let it = round_send in search (sendable, heap.crosses, crosses) depth 40 fits 20000

-- at the heap, since `search` finds no allocator's ghost members in a row
pub locked_sync : (c : clone.Ghosts (Heap.the_row).Denot) (L : RattleType) (g : ledger.Ghosts L.Denot) → IsSync (LockedGate.the_row L Heap.the_row c g ghosts)
locked_sync = locked_sync_over Heap.the_row ghosts heap.send heap.frees
