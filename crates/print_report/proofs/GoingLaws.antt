-- Lines that come one after the other, measured or written. Assumes nothing.
use Prim.Native.Nat.{ℕ, ◌*◌, ◌^◌, ◌≤◌, ◌<◌}
use mathlib.Core.Path.{◌≡◌, refl, sym, ap, ◌∙◌}
use mathlib.Core.Bool.{Bool}
use mathlib.Core.List.{[], ◌++◌, append_assoc, append-nil}
use lib.ListN.{length}
use Rattle.model.specs.Bytes.{Bytes}
use Rattle.model.specs.Limits.{u64_max}
use Rattle.print_rows.specs.Emit.{RoomFor, Emitted}
use Rattle.print_rows.proofs.EmitLaws.{emitted-none, emitted_both, room-first, room-then}

-- of `all`, to be measured or written from at₀ on, what is left at a place
pub record Going (write : Bool) (out₀ out : Bytes) (at₀ at : ℕ) (all left : Bytes) : Type 0 where
  pub done : Bytes
  pub is : all ≡ done ++ left
  pub emitted : Emitted write out₀ out at₀ done at
  pub room : RoomFor write out₀ at₀ all
  pub small : length out₀ * 1 < 2 ^ 63

pub going_start : {write : Bool} {out : Bytes} {at : ℕ} {all : Bytes} → RoomFor write out at all → length out * 1 < 2 ^ 63 → at ≤ u64_max → Going write out out at at all all
going_start {write} {out} {at} {all} h s m =
    record { done = []; is = refl; emitted = emitted-none write out at m; room = h; small = s }

module _ {write : Bool} {out₀ out : Bytes} {at₀ at : ℕ} {all left : Bytes} (γ : Going write out₀ out at₀ at all left) where
  room_split : RoomFor write out₀ at₀ (γ.done ++ left)
  room_split = rw γ.is at γ.room

  pub room-left : RoomFor write out at left
  room-left = room-then write out₀ at₀ γ.done left room_split γ.small γ.emitted

  module _ (a rest : Bytes) (e : left ≡ a ++ rest) where
    pub going_room : RoomFor write out at a
    going_room = room-first write out at a rest (rw e at room-left)

    pub going_next : {out' : Bytes} {at' : ℕ} → Emitted write out out' at a at' → Going write out₀ out' at₀ at' all rest
    going_next {out'} {at'} ε = record {
      done = γ.done ++ a;
      is = all-is;
      emitted = emitted_both write out₀ at₀ γ.done a (room-first write out₀ at₀ (γ.done ++ a) rest (rw all-is at γ.room)) γ.small γ.emitted ε;
      room = γ.room;
      small = γ.small;
    }
      where
        all-is : all ≡ γ.done ++ a ++ rest
        all-is = γ.is ∙ ap (λ (t : Bytes). γ.done ++ t) e ∙ sym (append_assoc γ.done a rest)

  pub going_done : left ≡ [] → Emitted write out₀ out at₀ all at
  going_done e = rw (γ.is ∙ ap (λ (t : Bytes). γ.done ++ t) e ∙ append-nil γ.done) γ.emitted
