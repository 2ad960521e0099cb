-- One arm a group: the step's promise is what the flat model says of each code of the group.
use Prim.Native.Nat.{ℕ, ◌+◌, ◌-◌}
use mathlib.Core.Path.{refl, ◌∙◌, ap}
use lib.ListN.{take}
use Rattle.operation.specs.Op.{loaded, lane_in, lane_out}
use Rattle.machine.specs.Memory.{part, padded, stored}
use Rattle.machine.specs.Inner.Flat.{put_slot, top_of, low32}
use Rattle.machine.proofs.Ready.{moved-of, did}
use Rattle.machine.proofs.instruction.exec.Goals as goal

pub returns-in-1 : goal.returns-in-1
returns-in-1 c = did c.requires c.group.ensures c.in-1.is (λ row q. record { depth = refl; stack = refl; locals = refl; memory = refl })

pub returns-in-2 : goal.returns-in-2
returns-in-2 c =
    did c.requires c.group.ensures c.in-2.is
    (λ row q. record { depth = refl; stack = c.get_local.ensures; locals = refl; memory = refl })

pub returns-in-3 : goal.returns-in-3
returns-in-3 c =
    did c.requires c.group.ensures c.in-3.is
    (λ row q. record { depth = refl; stack = refl; locals = c.set_local.ensures; memory = refl })

pub returns-in-4 : goal.returns-in-4
returns-in-4 c =
    did c.requires c.group.ensures c.in-4.is
    (λ row q. record { depth = refl; stack = refl; locals = c.set_local-in-4.ensures; memory = refl })

pub returns-in-5 : goal.returns-in-5
returns-in-5 c =
    did c.requires c.group.ensures c.in-5.is
    (λ row q. record { depth = refl; stack = c.push_number.ensures; locals = refl; memory = refl })

pub returns-in-6 : goal.returns-in-6
returns-in-6 c =
    did c.requires c.group.ensures c.in-6.is
    (λ row q. record { depth = refl; stack = c.push_number-in-6.ensures; locals = refl; memory = refl })

pub returns-in-7 : goal.returns-in-7
returns-in-7 c =
    did c.requires c.group.ensures c.in-7.is
    (λ row q. record { depth = refl; stack = c.add.ensures; locals = refl; memory = refl })

pub returns-in-8 : goal.returns-in-8
returns-in-8 c =
    did c.requires c.group.ensures c.in-8.is
    (λ row q. record { depth = refl; stack = c.sub.ensures; locals = refl; memory = refl })

pub returns-in-9 : goal.returns-in-9
returns-in-9 c =
    let a = c.args in
    let entry = c.requires.0 in
    let st = a.stack.now in
    let at = low32 (top_of st a.depth 1) + a.i.offset in
    did c.requires c.group.ensures c.in-9.is
    (λ l row q. record {
      depth = refl;
      stack = c.load.ensures l row ∙ ap
          (λ (n : ℕ). put_slot st (a.depth - 1) (loaded l (padded (part n at a.mem.now)))) (moved-of a.id entry c.moved.ensures row);
      locals = refl;
      memory = refl;
    })

pub returns-in-10 : goal.returns-in-10
returns-in-10 c =
    let a = c.args in
    let entry = c.requires.0 in
    let st = a.stack.now in
    let at = low32 (top_of st a.depth 2) + a.i.offset in
    did c.requires c.group.ensures c.in-10.is
    (λ w row q. record {
      depth = refl;
      stack = c.load_lane.ensures w row q.named ∙ ap
          (λ (n : ℕ). put_slot st (a.depth - 2) (lane_in w (padded (part n at a.mem.now)) (top_of st a.depth 1) a.i.lane))
          (moved-of a.id entry c.moved-in-10.ensures row);
      locals = refl;
      memory = refl;
    })

pub returns-in-11 : goal.returns-in-11
returns-in-11 c =
    did c.requires c.group.ensures c.in-11.is
    (λ row q. record { depth = refl; stack = refl; locals = refl; memory = c.store.ensures })

pub returns-in-12 : goal.returns-in-12
returns-in-12 c =
    let a = c.args in
    let entry = c.requires.0 in
    let st = a.stack.now in
    let at = low32 (top_of st a.depth 2) + a.i.offset in
    did c.requires c.group.ensures c.in-12.is
    (λ w row q. record {
      depth = refl;
      stack = refl;
      locals = refl;
      memory = c.store_lane.ensures w row q.named ∙ ap
          (λ (n : ℕ). stored a.mem.now at (take n (lane_out w (top_of st a.depth 1) a.i.lane)))
          (moved-of a.id entry c.moved-in-12.ensures row);
    })

pub returns-in-13 : goal.returns-in-13
returns-in-13 c =
    did c.requires c.group.ensures c.in-13.is
    (λ row q. record { depth = refl; stack = c.put.ensures; locals = refl; memory = refl })

pub returns-in-14 : goal.returns-in-14
returns-in-14 c =
    did c.requires c.group.ensures c.in-14.is
    (λ row q. record { depth = refl; stack = c.shuffle.ensures; locals = refl; memory = refl })

pub returns-in-15 : goal.returns-in-15
returns-in-15 c =
    did c.requires c.group.ensures c.in-15.is
    (λ w row q. record { depth = refl; stack = c.splat.ensures w row; locals = refl; memory = refl })

pub returns-in-16 : goal.returns-in-16
returns-in-16 c =
    did c.requires c.group.ensures c.in-16.is
    (λ s w row q. record { depth = refl; stack = c.extract.ensures s w row q.named; locals = refl; memory = refl })

pub returns-in-17 : goal.returns-in-17
returns-in-17 c =
    did c.requires c.group.ensures c.in-17.is
    (λ w row q. record { depth = refl; stack = c.replace.ensures w row q.named; locals = refl; memory = refl })

pub returns-in-18 : goal.returns-in-18
returns-in-18 c =
    did c.requires c.group.ensures c.in-18.is
    (λ o row q. record { depth = refl; stack = c.unary.ensures o row; locals = refl; memory = refl })

pub returns-in-19 : goal.returns-in-19
returns-in-19 c =
    did c.requires c.group.ensures c.in-19.is
    (λ o row q. record { depth = refl; stack = c.binary.ensures o row; locals = refl; memory = refl })

pub returns-in-20 : goal.returns-in-20
returns-in-20 c =
    did c.requires c.group.ensures c.in-20.is
    (λ row q. record { depth = refl; stack = c.bitselect.ensures; locals = refl; memory = refl })

pub returns-in-21 : goal.returns-in-21
returns-in-21 c =
    did c.requires c.group.ensures c.in-21.is
    (λ o row q. record { depth = refl; stack = c.test.ensures o row; locals = refl; memory = refl })

pub returns-in-22 : goal.returns-in-22
returns-in-22 c =
    did c.requires c.group.ensures c.in-22.is
    (λ o row q. record { depth = refl; stack = c.shift.ensures o row; locals = refl; memory = refl })

pub returns-in-23 : goal.returns-in-23
returns-in-23 c =
    did c.requires c.group.ensures c.in-23.is
    (λ row q. record { depth = refl; stack = c.eqz.ensures; locals = refl; memory = refl })

pub returns-in-24 : goal.returns-in-24
returns-in-24 c =
    did c.requires c.group.ensures c.in-24.is
    (λ row q. record { depth = refl; stack = c.lt_u.ensures; locals = refl; memory = refl })
