pub mod OwnVolumes
