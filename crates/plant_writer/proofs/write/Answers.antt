-- `write` meets its contract: rows 1 to 9, then 36 and 40, and then the text.
use mathlib.Core.Path.{sym, ◌∙◌}
use native.Mathlib.Omega.{arith}
use Rattle.std.proofs.lemmas.Result.{err_from_is_err_and}
use Rattle.plant.specs.Tables.{plant_of}
use Rattle.index.specs.Tables.{index_of}
use Rattle.written_text.proofs.Stretches.{depth_none}
use Rattle.plant_writer.proofs.Whole.{checked, refused_first, refused_deep, tiered, refused_long, made}
use Rattle.plant_writer.proofs.write.Goals as goal

pub returns-in_err-check : goal.returns-in_err-check
returns-in_err-check c =
    let P = plant_of c.args.plant in
    let I = index_of c.args.index in
    let l = refused_first P I c.args.text.now c.in_err-check.field-0.0 c.in_err-check.ensures.refusal in
    let p = err_from_is_err_and c.from_residual.result c.from_residual.ensures.1 in
    rw (p.1, p.2) (record { outcome = l.outcome; text = l.text; number = l.number; long = l.long; trips = l.trips })

pub text_length-n-requires : goal.text_length-n-requires
text_length-n-requires c =
    let P = plant_of c.args.plant in
    let I = index_of c.args.index in
    let h = sym c.in_ok-check.ensures.refusal in
    let k = checked P I h in
    record { few_devices = k.few_devices; few_terms = k.few_terms; few_postings = k.few_postings }

pub too_deep-requires : goal.too_deep-requires
too_deep-requires c =
    let P = plant_of c.args.plant in
    let I = index_of c.args.index in
    let h = sym c.in_ok-check.ensures.refusal in
    record { nested = (checked P I h).nested; depth = depth_none _ _; within_32 = omega arith }

pub returns-then-too_deep : goal.returns-then-too_deep
returns-then-too_deep c =
    let P = plant_of c.args.plant in
    let I = index_of c.args.index in
    let h = sym c.in_ok-check.ensures.refusal in
    let l = refused_deep P I c.args.text.now h c.too_deep.ensures c.if-too_deep.true in
    record { outcome = l.outcome; text = l.text; number = l.number; long = l.long; trips = l.trips }

pub returns-then-too_long : goal.returns-then-too_long
returns-then-too_long c =
    let P = plant_of c.args.plant in
    let I = index_of c.args.index in
    let h = sym c.in_ok-check.ensures.refusal in
    let n = c.text_length-n.ensures.is ∙ sym (checked P I h).long in
    let l = refused_long P I c.args.text.now h c.too_deep.ensures c.if-too_deep.false n c.too_long.ensures c.if-too_long.true in
    record { outcome = l.outcome; text = l.text; number = l.number; long = l.long; trips = l.trips }

pub put_plant-requires : goal.put_plant-requires
put_plant-requires c =
    let P = plant_of c.args.plant in
    let I = index_of c.args.index in
    let h = sym c.in_ok-check.ensures.refusal in
    let k = checked P I h in
    record { nested = k.nested; tiered = tiered P I c.args.text.now h c.too_deep.ensures c.if-too_deep.false; level_of_each = omega (arith, k.levels) }

pub returns : goal.returns
returns c =
    let P = plant_of c.args.plant in
    let I = index_of c.args.index in
    let h = sym c.in_ok-check.ensures.refusal in
    let n = c.text_length-n.ensures.is ∙ sym (checked P I h).long in
    let l = made P I c.args.text.now h c.too_deep.ensures c.if-too_deep.false n c.too_long.ensures c.if-too_long.false c.text_length-n.ensures.coded c.put_plant.ensures in
    record { outcome = l.outcome; text = l.text; number = l.number; long = l.long; trips = l.trips }
