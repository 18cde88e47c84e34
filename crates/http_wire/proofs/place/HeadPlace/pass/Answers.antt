use Rattle.std.proofs.Common.{◌++◌, ◌∷◌, [], subst, sym}
use Rattle.http_wire.specs.Places.{IsPlace}
use Rattle.http_wire.specs.declared.place.LinePart.{LinePart}
use Rattle.http_wire.proofs.PlaceLemmas.{place_begun, place_further}
use Rattle.http_wire.proofs.place.HeadPlace.pass.Goals.{in-Nothing, in-Return}
use Rattle.http_wire.proofs.place.HeadPlace.pass.Goals as goal

pub returns-clause-place : goal.returns-clause-place
returns-clause-place c text at =
    let old = c.args.self.now in
    let byte = c.args.byte in
    let Put : LinePart → Type 0 =
    λ part. IsPlace (text ++ byte ∷ []) (record { begun = old.begun; line = part }) in
    elim c.match-self.branch [
      | in-Nothing w ↦
          let begin = w.begin-self.ensures in
          subst Put (sym w.self-is)
          (place_begun text byte old w.begin-self.result at c.if-byte-eq10.false w.in-Nothing.is
          begin.cr begin.other)
      | in-Return w ↦
          subst Put (sym w.self-is)
          (place_further text byte old at c.if-byte-eq10.false w.in-Return.is)
    ]
