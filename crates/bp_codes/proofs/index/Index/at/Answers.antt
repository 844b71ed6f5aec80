use Rattle.std.proofs.Common.{arith}
use Rattle.bp_codes.proofs.KeptLemmas.{white_place, black_place, modes_place, at_white, at_black, at_modes}
use Rattle.bp_codes.proofs.index.Index.at.Goals as goal

pub bounds-place : goal.bounds-place
bounds-place c = white_place c.args.self c.args.place c.in-White.is c.requires

pub bounds-place-in-Black : goal.bounds-place-in-Black
bounds-place-in-Black c = black_place c.args.self c.args.place c.in-Black.is c.requires

pub bounds-place-in-Modes : goal.bounds-place-in-Modes
bounds-place-in-Modes c = modes_place c.args.self c.args.place c.in-Modes.is c.requires

pub returns-in-White : goal.returns-in-White
returns-in-White c = at_white c.args.self c.args.place c.in-White.is

pub returns-in-Black : goal.returns-in-Black
returns-in-Black c = at_black c.args.self c.args.place c.in-Black.is

pub returns-in-Modes : goal.returns-in-Modes
returns-in-Modes c = at_modes c.args.self c.args.place c.in-Modes.is

pub offset_bounds-place : goal.offset_bounds-place
offset_bounds-place c = omega (arith, white_place c.args.self c.args.place c.in-White.is c.requires)

pub offset_bounds-place-in-Black : goal.offset_bounds-place-in-Black
offset_bounds-place-in-Black c = omega (arith, black_place c.args.self c.args.place c.in-Black.is c.requires)

pub offset_bounds-place-in-Modes : goal.offset_bounds-place-in-Modes
offset_bounds-place-in-Modes c = omega (arith, modes_place c.args.self c.args.place c.in-Modes.is c.requires)
