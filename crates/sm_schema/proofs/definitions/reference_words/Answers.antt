use Rattle.sm_schema.proofs.definitions.reference_words.Goals as goal

pub defined_place-requires-clause-known : goal.defined_place-requires-clause-known
defined_place-requires-clause-known c = c.requires.numbered.values
