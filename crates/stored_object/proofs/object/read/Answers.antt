use Rattle.std.specs.Prelude.{Ok}
use mathlib.Core.Path.{◌≡◌, refl, sym, ap, ◌∙◌}
use mathlib.Core.List.{List}
use lib.ListN.{drop, length, length-drop}
use borrow.Author.Tests.{lt-ltb, le-ltb, eq-eqb, ne_eqb}
use Prim.Native.Nat.{ℕ, ◌+◌, ◌-◌}
use native.Mathlib.Omega.{arith}
use Rattle.rules.specs.Object.{Stored, stored_at}
use Rattle.rules.specs.Refusal.{decide}
use Rattle.rules.specs.Read.{object_tests}
use Rattle.stored_object.specs.declared.Header.{Header}
use Rattle.stored_object.specs.Objects.{header_of}
use Rattle.stored_object.proofs.object.read.Goals as goal

-- what stands at a position of the bytes has the room behind it
room-is : (s : List ℕ) (n room : ℕ) → room ≡ length s - n → room ≡ (stored_at n (drop n s)).room
unfolding stored_at
room-is s n room e = e ∙ sym (length-drop n s)

-- what its header says
size_is : (h : Header) (o : Stored) → h ≡ header_of o → h.size ≡ o.size
size_is h o e = ap (λ (h : Header). h.size) e

kept : (h : Header) (o : Stored) → h ≡ header_of o → h.room ≡ o.room
kept h o e = ap (λ (h : Header). h.room) e

id-is : (h : Header) (o : Stored) → h ≡ header_of o → h.id ≡ o.id
id-is h o e = ap (λ (h : Header). h.id) e

pub returns-then-room : goal.returns-then-room
unfolding object_tests decide
returns-then-room c =
    let a = c.args in
    let o = stored_at a.position (drop a.position a.file.now) in
    let room = room-is a.file.now a.position c.room.result c.room.ensures in
    rw (lt-ltb o.room 20 (omega (arith, room, c.if-room.true))) refl

pub overflow_sub-most : goal.overflow_sub-most
overflow_sub-most c =
    let a = c.args in
    let o = stored_at a.position (drop a.position a.file.now) in
    let room = room-is a.file.now a.position c.room.result c.room.ensures in
    let from = kept c.header-h.result o c.header-h.ensures in
    omega (arith, room, from, c.if-room.false)

pub returns-then-most-h : goal.returns-then-most-h
unfolding object_tests decide
returns-then-most-h c =
    let a = c.args in
    let o = stored_at a.position (drop a.position a.file.now) in
    let room = room-is a.file.now a.position c.room.result c.room.ensures in
    let from = kept c.header-h.result o c.header-h.ensures in
    let size = size_is c.header-h.result o c.header-h.ensures in
    rw (le-ltb o.room 20 (omega (arith, room, c.if-room.false)), lt-ltb o.room (20 + o.size) (omega (arith, room, from, size, c.if-room.false, c.if-most-h.true))) refl

pub bad_checksum-requires : goal.bad_checksum-requires
bad_checksum-requires c =
    let a = c.args in
    let o = stored_at a.position (drop a.position a.file.now) in
    let room = room-is a.file.now a.position c.room.result c.room.ensures in
    let from = kept c.header-h.result o c.header-h.ensures in
    record {
      h_value = c.header-h.ensures;
      size_bound = omega (arith, room, from, c.if-room.false, c.if-most-h.false);
    }

pub returns-then-bad_checksum : goal.returns-then-bad_checksum
unfolding object_tests decide
returns-then-bad_checksum c =
    let a = c.args in
    let o = stored_at a.position (drop a.position a.file.now) in
    let room = room-is a.file.now a.position c.room.result c.room.ensures in
    let from = kept c.header-h.result o c.header-h.ensures in
    let size = size_is c.header-h.result o c.header-h.ensures in
    rw (le-ltb o.room 20 (omega (arith, room, c.if-room.false)), le-ltb o.room (20 + o.size) (omega (arith, room, from, size, c.if-room.false, c.if-most-h.false)), sym c.bad_checksum.ensures ∙ c.if-bad_checksum.true) refl

pub returns-then-h-id : goal.returns-then-h-id
unfolding object_tests decide
returns-then-h-id c =
    let a = c.args in
    let o = stored_at a.position (drop a.position a.file.now) in
    let room = room-is a.file.now a.position c.room.result c.room.ensures in
    let from = kept c.header-h.result o c.header-h.ensures in
    let size = size_is c.header-h.result o c.header-h.ensures in
    let id = id-is c.header-h.result o c.header-h.ensures in
    rw (le-ltb o.room 20 (omega (arith, room, c.if-room.false)), le-ltb o.room (20 + o.size) (omega (arith, room, from, size, c.if-room.false, c.if-most-h.false)), sym c.bad_checksum.ensures ∙ c.if-bad_checksum.false, ne_eqb o.id a.id (λ q. c.if-h-id.true (id ∙ q))) refl

pub returns : goal.returns
unfolding stored_at object_tests decide
returns c =
    let a = c.args in
    let o = stored_at a.position (drop a.position a.file.now) in
    let room = room-is a.file.now a.position c.room.result c.room.ensures in
    let from = kept c.header-h.result o c.header-h.ensures in
    let size = size_is c.header-h.result o c.header-h.ensures in
    let id = id-is c.header-h.result o c.header-h.ensures in
    rw (le-ltb o.room 20 (omega (arith, room, c.if-room.false)), le-ltb o.room (20 + o.size) (omega (arith, room, from, size, c.if-room.false, c.if-most-h.false)), sym c.bad_checksum.ensures ∙ c.if-bad_checksum.false, eq-eqb o.id a.id (sym id ∙ c.if-h-id.false)) (ap (λ (n : ℕ). Ok (a.position + 20, n)) size)
