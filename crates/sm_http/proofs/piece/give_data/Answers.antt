use Rattle.std.proofs.Common.{sym, ap, subst, ◌-◌, ◌∙◌, arith}
use Rattle.std.specs.Io.KnownBytes.{prepend_known}
use Rattle.sm_http.specs.declared.message.BodyLeft.TheVariants.{Known, Data, Done}
use Rattle.sm_http.specs.Calls.{IsWithinLimit, DecidesBody}
use Rattle.sm_http.specs.steps.Passing.{GivesPiece, RefusesBody}
use Rattle.sm_http.proofs.BodyEnds.{known_open, data_open}
use Rattle.sm_http.proofs.ReadingPieces.{known_some, data_some, gives_none, gives_done, gives_refused, gives_known, gives_data}
use Rattle.sm_http.proofs.piece.give_data.Goals as goal

pub returns-then-most-eq0-clause-bytes : goal.returns-then-most-eq0-clause-bytes
returns-then-most-eq0-clause-bytes g c =
    let ahead = prepend_known c.args.held.now (g.S.Source.left c.args.source.now) in
    subst (λ p. GivesPiece p Done ahead ahead c.args.buf.now 0) (sym (c.in-Known.is ∙ ap Known c.if-most-eq0.true))
    (gives_none ahead c.args.buf.now)

pub returns-in-Err-clause-bytes : goal.returns-in-Err-clause-bytes
returns-in-Err-clause-bytes g c =
    let ahead = prepend_known c.args.held.now (g.S.Source.left c.args.source.now) in
    subst (λ p. RefusesBody p ahead (g.S.Source.left c.take_data.new.source) c.in-Err.refusal) (sym c.in-Known.is)
    (gives_refused (Known c.in-Known.most) c.in-Known.most ahead
    (prepend_known c.take_data.new.held (g.S.Source.left c.take_data.new.source))
    (g.S.Source.left c.take_data.new.source) c.take_data.new.buf c.in-Err.refusal
    (known_open c.in-Known.most (omega (arith, c.if-most-eq0.false))) c.in-Err.ensures.bytes)

pub returns-in-Err-take_data-clause-bytes : goal.returns-in-Err-take_data-clause-bytes
returns-in-Err-take_data-clause-bytes g c =
    let ahead = prepend_known c.args.held.now (g.S.Source.left c.args.source.now) in
    subst (λ p. RefusesBody p ahead (g.S.Source.left c.take_data-in-Data.new.source) c.in-Err-take_data.refusal) (sym c.in-Data.is)
    (gives_refused (Data c.in-Data.most c.in-Data.total) c.in-Data.most ahead
    (prepend_known c.take_data-in-Data.new.held (g.S.Source.left c.take_data-in-Data.new.source))
    (g.S.Source.left c.take_data-in-Data.new.source) c.take_data-in-Data.new.buf c.in-Err-take_data.refusal
    (data_open c.in-Data.most c.in-Data.total) c.in-Err-take_data.ensures.bytes)

pub returns-in-Ok-clause-bytes : goal.returns-in-Ok-clause-bytes
returns-in-Ok-clause-bytes g c =
    let ahead = prepend_known c.args.held.now (g.S.Source.left c.args.source.now) in
    let behind = prepend_known c.take_data.new.held (g.S.Source.left c.take_data.new.source) in
    subst (λ p. GivesPiece p (Known (c.in-Known.most - c.in-Ok.count)) ahead behind c.take_data.new.buf c.in-Ok.count) (sym c.in-Known.is)
    (gives_known c.in-Known.most c.in-Ok.count ahead behind (g.S.Source.left c.take_data.new.source) c.take_data.new.buf
    (subst IsWithinLimit c.in-Known.is c.requires.within) c.take_data.array_long c.in-Ok.ensures.bytes)

pub returns-in-Ok-take_data-clause-bytes : goal.returns-in-Ok-take_data-clause-bytes
returns-in-Ok-take_data-clause-bytes g c =
    let ahead = prepend_known c.args.held.now (g.S.Source.left c.args.source.now) in
    let behind = prepend_known c.take_data-in-Data.new.held (g.S.Source.left c.take_data-in-Data.new.source) in
    subst (λ p. GivesPiece p (Data (c.in-Data.most - c.in-Ok-take_data.count) c.in-Data.total) ahead behind c.take_data-in-Data.new.buf
    c.in-Ok-take_data.count) (sym c.in-Data.is)
    (gives_data c.in-Data.most c.in-Data.total c.in-Ok-take_data.count ahead behind
    (g.S.Source.left c.take_data-in-Data.new.source) c.take_data-in-Data.new.buf
    (subst IsWithinLimit c.in-Data.is c.requires.within) c.take_data-in-Data.array_long c.in-Ok-take_data.ensures.bytes)

pub returns-in-Done-clause-bytes : goal.returns-in-Done-clause-bytes
returns-in-Done-clause-bytes g c =
    let ahead = prepend_known c.args.held.now (g.S.Source.left c.args.source.now) in
    subst (λ p. GivesPiece p p ahead ahead c.args.buf.now 0) (sym c.in-Done.is) (gives_done ahead c.args.buf.now)

pub returns-in-Err-clause-unasked : goal.returns-in-Err-clause-unasked
returns-in-Err-clause-unasked g c = λ decides.
    c.in-Err.ensures.unasked (known_some c.in-Known.most c.args.held.now (omega (arith, c.if-most-eq0.false))
    (subst (λ p. DecidesBody p c.args.held.now) c.in-Known.is decides))

pub returns-in-Ok-clause-unasked : goal.returns-in-Ok-clause-unasked
returns-in-Ok-clause-unasked g c = λ decides.
    c.in-Ok.ensures.unasked (known_some c.in-Known.most c.args.held.now (omega (arith, c.if-most-eq0.false))
    (subst (λ p. DecidesBody p c.args.held.now) c.in-Known.is decides))

pub returns-in-Err-take_data-clause-unasked : goal.returns-in-Err-take_data-clause-unasked
returns-in-Err-take_data-clause-unasked g c = λ decides.
    c.in-Err-take_data.ensures.unasked (data_some c.in-Data.most c.in-Data.total c.args.held.now
    (subst (λ p. DecidesBody p c.args.held.now) c.in-Data.is decides))

pub returns-in-Ok-take_data-clause-unasked : goal.returns-in-Ok-take_data-clause-unasked
returns-in-Ok-take_data-clause-unasked g c = λ decides.
    c.in-Ok-take_data.ensures.unasked (data_some c.in-Data.most c.in-Data.total c.args.held.now
    (subst (λ p. DecidesBody p c.args.held.now) c.in-Data.is decides))
