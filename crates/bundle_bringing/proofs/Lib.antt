mod Bundles
