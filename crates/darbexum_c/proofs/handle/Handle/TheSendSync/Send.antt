-- What a handle owns says the same to every thread.
use mir.Raw.{raw}
use base.Shift.{Keyless}
use denote.Builtin.{RawPtr}
use denote.Memory.{lone}
use denote.Param.Send.{IsSend, owning_send, struct_send, sendable}
use denote.RawPtr.{Ptr}
use denote.Struct.Owning.{shape, fields, to}
use denote.Struct.Struct.{exits_of}
use Rattle.std.specs.Prelude.{Option, None, Some}
use Rattle.std.specs.declared.alloc.Global.{Global}
use Rattle.std.proofs.alloc.Global.TheSendSync as heap
use Rattle.std.proofs.Crossing.{frees}
use Rattle.std_alloc.proofs.SendSync.{lies, quiet}
use Rattle.studio_engine.specs.Engine.{EngineState}
use Rattle.studio_engine.specs.contracts.engine.Engine as engine
use Rattle.studio_engine.proofs.engine.Engine.TheSendSync as engine_sent
use Rattle.darbexum_c.specs.Held.{held}
use Rattle.darbexum_c.specs.contracts.handle.Handle.{the_row, the_type}

held_keyless : (a : Global) (p : Ptr) (e : Option EngineState) → Keyless (held a p e)
held_keyless a p None = tt
held_keyless a p (Some e) = (lies engine.the_row engine_sent.the_send p e, frees.frees a (raw (lone engine.the_row.mir)) p)

pub send : IsSend the_row
send = let ps : IsSend RawPtr = search sendable in
    owning_send the_type (ps, (heap.the_field_send, tt)) (λ d. held_keyless d.alloc d.at d.engine)
    (λ k. quiet (to the_type) (exits_of k (fields the_type)) ((struct_send (shape the_type) (ps, (heap.the_field_send, tt))).leaving k))
