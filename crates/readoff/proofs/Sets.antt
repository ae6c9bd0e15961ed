-- The lemmas that the goals of a function are tried with.
use Rattle.tables.proofs.Helpers.{pick_on, pick_off}
use Rattle.ordering.proofs.Listing.{inside_at}
use Rattle.readoff.proofs.Numbering.{one_most, numbered_later, numbered_most, numbered_fits}
use Rattle.readoff.proofs.Places.{place_most, place_led}
use Rattle.readoff.proofs.Written.{recorded_none, recorded_all, assigned_none}

pub ruleset parent = (numbered_fits, place_most, pick_on, pick_off)

pub ruleset assigning = (numbered_fits, place_most, place_led, assigned_none)

pub ruleset node_records = (numbered_fits, numbered_later, recorded_none, recorded_all, inside_at)

pub ruleset numbers = (one_most, numbered_most, numbered_fits)
