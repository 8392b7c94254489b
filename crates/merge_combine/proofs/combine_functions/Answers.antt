-- `merge_combine::combine_functions` meets its contract: one law for each choice. Assumes nothing.
use Rattle.merge_combine.proofs.CombineLaws.{function-earlier, function_later, function_neither}
use Rattle.merge_combine.proofs.combine_functions.Goals as goal

pub returns-in-Earlier : goal.returns-in-Earlier
returns-in-Earlier c text w v =
    function-earlier text c.args.mode c.args.old c.args.new c.requires.0 c.requires.1 _ c.saturating_add.ensures
    _ _ c.start_key-earlier.ensures c.start_key-later.ensures _ c.choose.ensures _ c.in-Earlier.is c.with_larger_end.ensures w

pub returns-in-Later : goal.returns-in-Later
returns-in-Later c text w v =
    function_later text c.args.mode c.args.old c.args.new c.requires.0 c.requires.1 _ c.saturating_add.ensures
    _ _ c.start_key-earlier.ensures c.start_key-later.ensures _ c.choose.ensures _ c.in-Later.is c.with_extent.ensures w

pub returns-in-Neither : goal.returns-in-Neither
returns-in-Neither c text w v =
    function_neither text c.args.mode c.args.old c.args.new c.requires.0 c.requires.1 _ c.saturating_add.ensures
    _ _ c.start_key-earlier.ensures c.start_key-later.ensures _ c.choose.ensures c.in-Neither.is
